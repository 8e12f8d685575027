-- Calls that edit behind calls that read.
use Rattle.std.proofs.Common.{◌≡◌, ◌⊎◌, Result, Ok, Err, inl, inr}
use Rattle.retro_base.specs.declared.refusal.Refusal.{Refusal}
use Rattle.pager.specs.Pages.{Pages, IsPartOf, Narrows}
use Rattle.pager.specs.Stop.{Leaves, Makes}
use Rattle.pager.specs.declared.stop.Stop.{Stop}
use Rattle.pager.specs.declared.stop.Stop.TheVariants as stop
use Rattle.sql_exec.proofs.Answering.{handed}

-- what one call allows of the pages, the other allows too, with a reply
module _ {A B : Type 0} (old between after : Pages → Pages → Type 0) (one : Pages → Result (A × Pages) Refusal → Type 0) (other : Pages → Result (B × Pages) Refusal → Type 0) (reply : A → B) (narrows : Narrows old between)
    (ok : (base was now : Pages) (x : A) → between base was → one was (Ok (x, now)) → other was (Ok (reply x, now)))
    (err : (base was : Pages) (why : Refusal) → between base was → one was (Err why) → other was (Err why)) where
  pub replies : (F : Type 0) (x : A) → Makes {X = A} {Y = A} {F = F} (λ x. x) between after one (Ok x) → Makes {X = B} {Y = B} {F = F} (λ r. r) old after other (Ok (reply x))
  replies F x makes = λ base now told.
      let made = makes base now told in
      (made.0, narrows base made.0 made.1, ok base made.0 now x made.1 made.2)

  cut : (base was now : Pages) → between base was → (now ≡ was) ⊎ ((y : A) × (whole : Pages) × one was (Ok (y, whole)) × IsPartOf was whole now) → (now ≡ was) ⊎ ((y : B) × (whole : Pages) × other was (Ok (y, whole)) × IsPartOf was whole now)
  cut base was now told (inl same) = inl same
  cut base was now told (inr part) = inr (reply part.0, part.1, ok base was part.1 part.0 told part.2, part.3)

  pub stops : {F : Type 0} (e : Stop F) → Makes {X = A} {Y = A} (λ x. x) between after one (Err e) → Makes {X = B} {Y = B} (λ r. r) old after other (Err e)
  stops (stop.Refused why) makes = λ base now told.
      let made = makes base now told in
      (made.0, narrows base made.0 made.1, (made.2.0, handed (err base made.0 why made.1) made.2.1))
  stops (stop.Pager fault) makes = λ base now told.
      let made = makes base now told in
      (made.0, narrows base made.0 made.1, cut base made.0 now made.1 made.2)

-- what follows of what is allowed follows of what is left
pub leaves-then : {X Y F : Type 0} (view : X → Y) (one other : Result (Y × Pages) Refusal → Type 0) (was now : Pages) → ((b : Result (Y × Pages) Refusal) → one b → other b) → (result : Result X (Stop F)) → Leaves view one was now result → Leaves view other was now result
leaves-then view one other was now follows (Ok x) h = follows (Ok (view x, now)) h
leaves-then view one other was now follows (Err (stop.Refused why)) h = (h.0, handed (follows (Err why)) h.1)
leaves-then view one other was now follows (Err (stop.Pager fault)) (inl same) = inl same
leaves-then view one other was now follows (Err (stop.Pager fault)) (inr part) = inr (part.0, part.1, follows (Ok (part.0, part.1)) part.2, part.3)

-- a call behind one that only read
pub behind : {X F : Type 0} (old between after : Pages → Pages → Type 0) (one other : Pages → Result (X × Pages) Refusal → Type 0) → Narrows old between → ((base was : Pages) → between base was → (b : Result (X × Pages) Refusal) → one was b → other was b) → (result : Result X (Stop F)) → Makes {X = X} {Y = X} (λ x. x) between after one result → Makes {X = X} {Y = X} (λ x. x) old after other result
behind {F = F} old between after one other narrows follows (Ok x) makes = replies old between after one other (λ x. x) narrows (λ base was now y told h. follows base was told (Ok (y, now)) h) (λ base was why told h. follows base was told (Err why) h) F x makes
behind old between after one other narrows follows (Err e) makes = stops old between after one other (λ x. x) narrows (λ base was now y told h. follows base was told (Ok (y, now)) h) (λ base was why told h. follows base was told (Err why) h) e makes
