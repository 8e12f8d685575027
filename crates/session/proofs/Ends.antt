-- How a look ends.
use Rattle.std.proofs.Common.{◌≡◌, ◌∙◌, ◌++◌, ℕ, true, List, [], Option, Some, Result, Ok, Err, refl, sym, ap, subst, append-nil}
use Rattle.std.specs.Prelude.{IfOk}
use Rattle.retro_base.specs.declared.refusal.Refusal.{Refusal}
use Rattle.retro_base.specs.declared.refusal.Refusal.TheVariants as refusal
use Rattle.journal_law.specs.Seats.{Idle, Look, Looking, MayEnd, Moves, UnlookGives, View, is_looking}
use Rattle.journal_law.specs.declared.seat.Ending.{Ending}
use Rattle.journal_law.specs.declared.seat.Ending.TheVariants as ending
use Rattle.seat_pager.proofs.Looks.{looking}
use Rattle.session.specs.Ending.{Concludes, LookEnds, ending_by, ending_of, told_of}

pub ends_ok : (old new : View) (look : Look) (text : Result (List ℕ) Refusal) (words : List ℕ) → text ≡ Ok words → UnlookGives ending.Asked old new look → UnlookGives (ending_of text) old new look
ends_ok old new look text words is gives = subst (λ (e : Ending). UnlookGives e old new look) (sym (ap ending_of is)) gives

pub ends_err : (old new : View) (look : Look) (text : Result (List ℕ) Refusal) (why : Refusal) (end : Ending) → text ≡ Err why → end ≡ ending_by why → UnlookGives end old new look → UnlookGives (ending_of text) old new look
ends_err old new look text why end is same gives = subst (λ (e : Ending). UnlookGives e old new look) (same ∙ sym (ap ending_of is)) gives

-- what a look concludes with may be given as its end
pub may_end : (Answered : Result (List ℕ) Refusal → Type 0) (view : View) (text : Result (List ℕ) Refusal) → Concludes Answered view text → MayEnd view (ending_of text)
may_end Answered view (Ok words) concludes = tt
may_end Answered view (Err (refusal.DiskFault device count)) concludes = concludes.0
may_end Answered view (Err (refusal.Overlap session item)) concludes = absurd concludes
may_end Answered view (Err why) concludes = tt

pub look_ends : {E : Type 0} (names : List (List ℕ)) (Answered : Result (List ℕ) Refusal → Type 0) (old between new : View) (text : Result (List ℕ) Refusal) (words : Result (Option (List ℕ)) E) → Moves old between []
    → between.work ≡ old.work → Concludes Answered between text → ((look : Look) → between.work ≡ Looking look → UnlookGives (ending_of text) between new look) → IfOk words (λ w. w ≡ Some (told_of names text))
    → LookEnds names Answered old new words
look_ends names Answered old between new text words moves work concludes gives tells = record {
  between = between;
  moves = moves;
  work = work;
  text = text;
  concludes = concludes;
  ends = λ look is. gives look (work ∙ is);
  tells = tells;
}

-- at once
pub ends_at_once : {E : Type 0} (names : List (List ℕ)) (Answered : Result (List ℕ) Refusal → Type 0) (old new : View) (text : Result (List ℕ) Refusal) (words : Result (Option (List ℕ)) E)
    → Concludes Answered old text → ((look : Look) → old.work ≡ Looking look → UnlookGives (ending_of text) old new look) → IfOk words (λ w. w ≡ Some (told_of names text)) → LookEnds names Answered old new words
ends_at_once names Answered old new text words concludes gives tells =
    look_ends names Answered old old new text words
    (record { session = refl; opened = refl; others = []; apart = tt; front = sym (append-nil (old.front ++ []) ∙ append-nil old.front) }) refl concludes gives tells

-- what stands behind a look that has ended
pub ended_left : {E : Type 0} (names : List (List ℕ)) (Answered : Result (List ℕ) Refusal → Type 0) (old new : View) (words : Result (Option (List ℕ)) E) → is_looking old.work ≡ true → LookEnds names Answered old new words
    → (new.work ≡ Idle) × (new.session ≡ old.session)
ended_left names Answered old new words is ends =
    let look = looking old.work is in
    let gives = ends.ends look.0 look.1 in
    (gives.work_is, gives.moves.session ∙ ends.moves.session)
