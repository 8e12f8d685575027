-- What the locks know of the opening of a store, of its desk, and of its vault.
use Rattle.std.specs.Prelude.{ℕ, List, Option}
use Rattle.retro_base.specs.declared.device.Device.{Device}
use Rattle.history.specs.declared.entry.Base.{Base}
use Rattle.history.specs.declared.journal.Line.{Line}

pub record OpeningMeaning (O : Type 0) : Type 1 where
  -- what the log said
  pub base : O → Base
  -- how many faults of each device there were
  pub counts : O → Device → ℕ
  -- a journal that may follow
  pub Lawful : O → List Line → Type 0

pub record DeskMeaning (O W A : Type 0) : Type 1 where
  pub opening : A → O
  -- the journal that it keeps
  pub journal : A → List Line
  -- it stands for the opening and its journal
  pub Fits : A → Type 0
  -- the open work of each seat
  pub work_of : A → ℕ → Option W
  -- how many mappings of the vault it knows of
  pub acked : A → ℕ
  pub counts : A → Device → ℕ

pub record VaultMeaning (O B : Type 0) : Type 1 where
  -- it stands for an opening and a journal
  pub Fits : B → O → List Line → Type 0
  -- how many mappings it has, from the first of the store on
  pub held : B → ℕ
  pub counts : B → Device → ℕ
