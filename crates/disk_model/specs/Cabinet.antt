-- The stores of a cabinet, by name, and those that were taken out.
use Rattle.std.specs.Prelude.{◌≡◌, ◌⊎◌, ◌↔◌, ℕ, List, Option, None, Result, OnOk, OnErr, replicate}
use Rattle.disk_model.specs.Disk.{State, IsDurable}
use Rattle.disk_model.specs.Sizes.{log_bytes, maplog_bytes, pagelog_bytes, pages_bytes}
use Rattle.disk_model.specs.declared.four.Four.{Four}
use Rattle.disk_model.specs.declared.four.Sizes.{Sizes}

-- the names whose stores are out, after a call that took out the store of that name
abbrev pub OneMoreOut : List ℕ → (List ℕ → Type 0) → (List ℕ → Type 0) → Type 0
OneMoreOut dir old new = (name : List ℕ) → new name ↔ (old name ⊎ name ≡ dir)

-- after the store of that name came back
abbrev pub OneLessOut : List ℕ → (List ℕ → Type 0) → (List ℕ → Type 0) → Type 0
OneLessOut dir old new = (name : List ℕ) → new name ↔ (old name × (name ≡ dir → ⊥))

-- the same names are out
abbrev pub SameOut : (List ℕ → Type 0) → (List ℕ → Type 0) → Type 0
SameOut old new = (name : List ℕ) → new name ↔ old name

-- what stands under each name: this under that one, under any other what stood there
pub record Stands {Store : Type 0} (dir : List ℕ) (store : Option Store)
    (old new : List ℕ → Option Store) : Type 0 where
  pub here : new dir ≡ store
  pub elsewhere : (name : List ℕ) → (name ≡ dir → ⊥) → new name ≡ old name

-- a store was taken out, or all is as it was
pub record TakesOut {Store Taken E : Type 0} (dir : List ℕ) (old new : List ℕ → Option Store)
    (result : Result Taken E) : Type 0 where
  pub ok : OnOk result (Stands dir None old new)
  pub err : OnErr result ((name : List ℕ) → new name ≡ old name)

-- the same for the names that are out
pub record GoesOut {Taken E : Type 0} (dir : List ℕ) (old new : List ℕ → Type 0)
    (result : Result Taken E) : Type 0 where
  pub ok : OnOk result (OneMoreOut dir old new)
  pub err : OnErr result (SameOut old new)

-- the devices of a store of these sizes
pub record AreSized {Device : Type 0} (extent : Device → ℕ) (sizes : Sizes) (four : Four Device) : Type 0 where
  pub log : extent four.log ≡ log_bytes
  pub pages : extent four.pages ≡ pages_bytes sizes.pages
  pub pagelog : extent four.pagelog ≡ pagelog_bytes sizes.capacity
  pub maplog : extent four.maplog ≡ maplog_bytes sizes.capacity

-- a device that tells its bytes, all of them 0 and durable
pub record IsBlank {Device : Type 0} (extent : Device → ℕ) (is_honest : Device → Type 0) (state : Device → State)
    (device : Device) : Type 0 where
  pub honest : is_honest device
  pub zeros : (state device).seen ≡ replicate (extent device) 0
  pub durable : IsDurable (state device)

-- each of the four
pub record Each {Device : Type 0} (P : Device → Type 0) (four : Four Device) : Type 0 where
  pub log : P four.log
  pub pages : P four.pages
  pub pagelog : P four.pagelog
  pub maplog : P four.maplog
