-- Which tables pages hold is a matter of their bytes: it does not ask which pages count as edited.
use Rattle.std.proofs.Common.{ℕ, Bool, refl}
use Rattle.pager.specs.Pages.{Pages}
use Rattle.relation_laws.proofs.Bytes.{bytes_there}
use Rattle.sql_exec.specs.Stored.{IsStored}
use Rattle.tables.specs.Tables.{Tables}

module _ (size : ℕ) (pages : Pages) (edited : ℕ → Bool) where
  pub stored_there : (tables : Tables) → IsStored size pages tables → IsStored size (record { at = pages.at; edited = edited }) tables
  stored_there tables is = record {
    all = is.all;
    store = bytes_there size pages (record { at = pages.at; edited = edited }) is.all is.store (λ page. refl);
    same = is.same;
  }
