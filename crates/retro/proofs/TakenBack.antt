-- Devices that were handed out and have come back.
use Rattle.std.proofs.Common.{◌≡◌, ◌↔◌, ◌∙◌, ℕ, List, Option, Some, None, inl, inr}
use Rattle.disk_model.specs.Cabinet.{OneLessOut, OneMoreOut, Stands}
use Rattle.retro.specs.Stores.{TakesBack}

-- no store is out that was not
pub none_more : (dir : List ℕ) (old out new : List ℕ → Type 0) → OneMoreOut dir old out → OneLessOut dir out new → (name : List ℕ) → new name → old name
none_more dir old out new more less name is =
    let was = (less name).0 is in
    elim ((more name).0 was.0) [ inl before ↦ before | inr here ↦ absurd (was.1 here) ]

-- they stand there, and elsewhere what stood
pub stand_again : {Store : Type 0} (dir : List ℕ) (back : Store) (old out new : List ℕ → Option Store) → Stands dir None old out → Stands dir (Some back) out new → Stands dir (Some back) old new
stand_again dir back old out new gone here = record {
  here = here.here;
  elsewhere = λ name other. here.elsewhere name other ∙ gone.elsewhere name other;
}

-- what a command does to a cabinet that handed out devices and took these back
pub took_back : {C Store : Type 0} (faults : C → ℕ) (is_out : C → List ℕ → Type 0) (tells : C → Type 0) (store : C → List ℕ → Option Store) (dir : List ℕ) (old out new : C) (back : Store)
    → faults out ≡ faults old → tells old ↔ tells out → OneMoreOut dir (is_out old) (is_out out) → (tells old → Stands dir None (store old) (store out))
    → faults new ≡ faults out → tells out ↔ tells new → OneLessOut dir (is_out out) (is_out new) → (tells out → Stands dir (Some back) (store out) (store new))
    → TakesBack faults is_out tells store dir old new back
took_back faults is_out tells store dir old out new back same told more gone still told_too less here = record {
  count = still ∙ same;
  told = ((λ t. told_too.0 (told.0 t)), (λ t. told.1 (told_too.1 t)));
  out = none_more dir (is_out old) (is_out out) (is_out new) more less;
  stands = λ t. stand_again dir back (store old) (store out) (store new) (gone t) (here (told.0 t));
}
