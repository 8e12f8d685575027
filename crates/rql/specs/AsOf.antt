-- What a query gives at snapshots, and the forms of contracts over it.
use Rattle.std.specs.Prelude.{◌≡◌, ◌⊎◌, ℕ, Bool, IsTrue, List, Result, Ok, Err, Contains}
use Rattle.std.specs.List.{AllByRecursion}
use Rattle.retro_base.specs.declared.refusal.Refusal.{Refusal}
use Rattle.retro_base.specs.declared.refusal.Refusal.TheVariants.{OutOfMemory, NotAStore, UnknownName}
use Rattle.retro_base.specs.declared.refusal.Refusal.TheVariants.{NameTaken, WrongType, Overflow, NotOneValue}
use Rattle.pager.specs.Stop.{Allowed, IsCaused}
use Rattle.pager.specs.declared.stop.Stop.{Stop}
use Rattle.pager.specs.declared.stop.Stop.TheVariants as stop
use Rattle.sql_tree.specs.declared.select.Select.{Select}
use Rattle.sql_select.specs.declared.answer.Answer.{Answer}

-- what each query gives at each snapshot
abbrev pub Answers : Type 0
Answers = ℕ → Select → Result Answer Refusal

-- the refusals of a query: want of memory, pages that are no store's, and what its meaning refuses
abbrev pub IsOfQuery : Refusal → Type 0
IsOfQuery OutOfMemory = Unit {0}
IsOfQuery (NotAStore where_ place) = Unit {0}
IsOfQuery UnknownName = Unit {0}
IsOfQuery NameTaken = Unit {0}
IsOfQuery WrongType = Unit {0}
IsOfQuery Overflow = Unit {0}
IsOfQuery _ = ⊥

-- the refusals at a snapshot: those of the query, and that there is not one value
abbrev pub IsOfSnapshot : ℕ → Refusal → Type 0
IsOfSnapshot snapshot why = IsOfQuery why ⊎ (why ≡ NotOneValue snapshot)

-- the refusals of a call over snapshots: those at one of them
abbrev pub IsOfCall : List ℕ → Refusal → Type 0
IsOfCall snapshots why = IsOfQuery why ⊎ ((snapshot : ℕ) × Contains snapshots snapshot × (why ≡ NotOneValue snapshot))

-- an answer, one of these refusals, or the fault of what is asked
abbrev pub IsNamed : {X F : Type 0} → (Refusal → Type 0) → Result X (Stop F) → Type 0
IsNamed allowed (Ok x) = Unit {0}
IsNamed allowed (Err (stop.Refused why)) = allowed why
IsNamed allowed (Err (stop.Pager fault)) = Unit {0}

-- the answer of a call is what the definition gives of the query's answers, whatever they may be by what is told
abbrev pub Tells : {X Y F : Type 0} → (X → Y) → (Answers → Type 0) → Select →
    ((ℕ → Result Answer Refusal) → Result Y Refusal) → Result X (Stop F) → Type 0
Tells view told query definition result =
    (answers : Answers) → told answers → Allowed view (λ r. definition (λ snapshot. answers snapshot query) ≡ r) result

-- a call that asks changes nothing that may be asked, still tells what was told, and tells what ended it
pub record OnlyAsks {A X F : Type 0} (may_ask : A → ℕ → Bool) (told : A → Answers → Type 0) (goes : A → A → Type 0)
    (faults : A → ℕ) (allowed : Refusal → Type 0) (old new : A) (result : Result X (Stop F)) : Type 0 where
  pub may_ask_stays : may_ask new ≡ may_ask old
  pub told_stays : (answers : Answers) → told old answers → told new answers
  pub goes_on : goes old new
  pub cause : IsCaused (faults old) (faults new) result
  pub named : IsNamed allowed result

-- each of these snapshots may be asked
abbrev pub MayAskEach : {A : Type 0} → (A → ℕ → Bool) → A → List ℕ → Type 0
MayAskEach may_ask asof snapshots = AllByRecursion (λ snapshot. IsTrue (may_ask asof snapshot)) snapshots

-- a call over snapshots answers what it means by the query's answers there, and only asks
pub record Combines {A F : Type 0} (may_ask : A → ℕ → Bool) (tells : A → Answers → Type 0) (goes : A → A → Type 0)
    (faults : A → ℕ) (means : (ℕ → Result Answer Refusal) → List ℕ → Result Answer Refusal) (snapshots : List ℕ)
    (query : Select) (old new : A) (result : Result Answer (Stop F)) : Type 0 where
  pub told : Tells (λ answer. answer) (tells old) query (λ answers. means answers snapshots) result
  pub only_asks : OnlyAsks may_ask tells goes faults (IsOfCall snapshots) old new result
