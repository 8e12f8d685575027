-- What a call over snapshots ends with.
use Rattle.std.proofs.Common.{◌≡◌, ◌∙◌, ◌⊎◌, ℕ, List, [], Option, Some, None, Result, Ok, Err, inl, inr, refl, sym, subst}
use Rattle.retro_base.specs.declared.refusal.Refusal.{Refusal}
use Rattle.retro_base.specs.declared.refusal.Refusal.TheVariants as refusal
use Rattle.pager.specs.Stop.{Allowed}
use Rattle.pager.specs.declared.stop.Stop.{Stop}
use Rattle.pager.specs.declared.stop.Stop.TheVariants as stop
use Rattle.rql.specs.AsOf.{Answers}
use Rattle.rql_arguments.specs.declared.call.Combination.{Combination}
use Rattle.sql_select.specs.declared.answer.Answer.{Answer}
use Rattle.sql_tree.specs.declared.select.Select.{Select}
use Rattle.journal_law.specs.Seats.{View}
use Rattle.seat_pager.specs.Past.{IsTold, LooksOn}
use Rattle.session.specs.Asking.{TellsPast}
use Rattle.session.specs.Calls.{Combines, CombinesNone, ended}
use Rattle.session.specs.Ending.{Concludes, IsReason}
use Rattle.session.specs.OverSnapshots.{combined}
use Rattle.session.specs.Singles.{of_query}
use Rattle.session.proofs.AsOf.{not_memory, seat_reason}

-- a refusal that may be one in each of some worlds
pub reason_of : {W X : Type 0} (D : W → Result X Refusal) (view : View) (why : Refusal) → ((w : W) → (why ≡ refusal.OutOfMemory) ⊎ (D w ≡ Err why)) → IsReason (λ (r : Result X Refusal). (w : W) → D w ≡ r) view (of_query why)
reason_of D view (refusal.DiskFault device count) may = inl refl
reason_of D view (refusal.Overlap session item) may = inl refl
reason_of D view refusal.OutOfMemory may = inl refl
reason_of D view why may = inr (λ w. not_memory why refl (may w))

-- and so what a call over a look ends with
pub ended_concludes : {W : Type 0} (D : W → Result Answer Refusal) (view : View) (result : Result Answer (Stop Refusal)) (last : Option Refusal)
    → ((w : W) → Allowed (λ (a : Answer). a) (λ r. D w ≡ r) result) → IsTold (record { view = view; refused = last }) → Concludes (λ (r : Result Answer Refusal). (w : W) → D w ≡ r) view (ended result last)
ended_concludes D view (Ok answer) last may told = may
ended_concludes D view (Err (stop.Refused why)) last may told = reason_of D view why may
ended_concludes {W = W} D view (Err (stop.Pager fault)) last may told = seat_reason (λ (r : Result Answer Refusal). (w : W) → D w ≡ r) view last told

-- what follows of an answer follows of what is concluded
pub reason_by : {X Y : Type 0} (A : Result X Refusal → Type 0) (B : Result Y Refusal → Type 0) (view : View) (why : Refusal) → (A (Err why) → B (Err why)) → IsReason A view why → IsReason B view why
reason_by A B view (refusal.DiskFault device count) follows is = is
reason_by A B view (refusal.Overlap session item) follows is = absurd is
reason_by A B view why follows (inl memory) = inl memory
reason_by A B view why follows (inr is) = inr (follows is)

pub concludes_by : {X : Type 0} (A B : Result X Refusal → Type 0) (view : View) (found : Result X Refusal) → ((r : Result X Refusal) → A r → B r) → Concludes A view found → Concludes B view found
concludes_by A B view (Ok x) follows is = follows (Ok x) is
concludes_by A B view (Err why) follows is = reason_by A B view why (follows (Err why)) is

-- what an honest look tells
pub record ToldBy (honest : Type 0) (view : View) : Type 0 where
  pub is_honest : honest
  pub answers : Answers
  pub tells : TellsPast view answers

nothing_told : (first : Option Refusal) (why : Refusal) → first ≡ None → first ≡ Some why → ⊥
nothing_told first why one two = clash (sym one ∙ two)
  where
    clash : None ≡ Some why → ⊥
    clash e = cc

-- the combined answers over a look that began with no refusal
pub combine_concludes : (query : Select) (combination : Combination) (numbers : List ℕ) (honest still : Type 0) (old before after : View) (first last told_last : Option Refusal) (result : Result Answer (Stop Refusal))
    → (honest → still) → before ≡ old → LooksOn (record { view = before; refused = first }) (record { view = after; refused = last }) → first ≡ None → told_last ≡ last
    → ((answers : Answers) → still × TellsPast before answers → Allowed (λ (a : Answer). a) (λ r. combined combination (λ (n : ℕ). answers n query) numbers ≡ r) result)
    → Concludes (Combines query combination numbers honest old) after (ended result told_last)
combine_concludes query combination numbers honest still old before after first last told_last result stays same goes begun told_same may =
    subst (λ (v : View). Concludes (Combines query combination numbers honest v) after (ended result told_last)) same
    (concludes_by (λ (r : Result Answer Refusal). (w : ToldBy honest before) → D w ≡ r) (Combines query combination numbers honest before) after (ended result told_last)
    (λ r is is_honest answers tells. is (record { is_honest = is_honest; answers = answers; tells = tells }))
    (ended_concludes D after result told_last (λ w. may w.answers (stays w.is_honest, w.tells)) told_now))
  where
    D : ToldBy honest before → Result Answer Refusal
    D w = combined combination (λ (n : ℕ). w.answers n query) numbers

    told_now : IsTold (record { view = after; refused = told_last })
    told_now = subst (λ (r : Option Refusal). IsTold (record { view = after; refused = r })) (sym told_same) (goes.reasons (λ why e. absurd (nothing_told first why begun e)))

-- and over no snapshots
pub none_concludes : (query : Select) (combination : Combination) (view : View) (result : Result Answer (Stop Refusal))
    → ((answers : Answers) → Unit {0} → Allowed (λ (a : Answer). a) (λ r. combined combination (λ (n : ℕ). answers n query) [] ≡ r) result) → Concludes (CombinesNone query combination) view (ended result None)
none_concludes query combination view result may =
    ended_concludes {W = Answers} (λ answers. combined combination (λ (n : ℕ). answers n query) []) view result None (λ answers. may answers tt) (λ why e. absurd (nothing_told None why refl e))
