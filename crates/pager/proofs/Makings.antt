-- A call that drafts edits, and then makes them.
use Rattle.std.proofs.Common.{◌≡◌, ℕ, List, Result, Ok, Err, inl, inr, refl, sym, subst}
use Rattle.retro_base.specs.declared.refusal.Refusal.{Refusal}
use Rattle.pager.specs.Draft.{drafted, Writes}
use Rattle.pager.specs.Pages.{Pages, Leads, Narrows}
use Rattle.pager.specs.Stop.{AllowedStop, Makes}
use Rattle.pager.specs.declared.stop.Stop.{Stop}
use Rattle.pager.specs.declared.stop.Stop.TheVariants as stop

-- drafting was refused, or the pager failed in it: no page was edited
pub makes-none : {X Y F : Type 0} (view : X → Y) (before after : Pages → Pages → Type 0) (allows : Pages → Result (Y × Pages) Refusal → Type 0) (e : Stop F)
    → Narrows before after → ((base shown : Pages) → after base shown → AllowedStop (λ why. allows shown (Err why)) e) → Makes {X = X} view before after allows (Err e)
makes-none view before after allows (stop.Refused why) narrows h = λ base now told. (now, narrows base now told, (refl, h base now told))
makes-none view before after allows (stop.Pager fault) narrows h = λ base now told. (now, narrows base now told, inl refl)

module _ {X Y : Type 0} (view : X → Y) (before between after : Pages → Pages → Type 0) (list : List (ℕ × List ℕ)) (allows : Pages → Result (Y × Pages) Refusal → Type 0) (x : X)
    (narrows : Narrows before between) (drafts : (base shown : Pages) → between base shown → allows shown (Ok (view x, drafted shown list))) where
  -- all edits are made
  pub makes-all : Leads between after (λ was now. now ≡ drafted was list) → Leads before after (λ was now. allows was (Ok (view x, now)))
  makes-all writes = λ base now told.
      let made = writes base now told in
      (made.0, narrows base made.0 made.1, subst (λ (pages : Pages). allows made.0 (Ok (view x, pages))) (sym made.2) (drafts base made.0 made.1))

  -- the pager failed between them
  pub makes-part : {F : Type 0} (e : Stop F) → Writes between after list (Err e) → Makes {X = X} view before after allows (Err e)
  makes-part {F} (stop.Refused why) writes = absurd writes
  makes-part {F} (stop.Pager fault) writes = λ base now told.
      let made = writes base now told in
      (made.0, narrows base made.0 made.1, inr (view x, drafted made.0 list, drafts base made.0 made.1, made.2))
