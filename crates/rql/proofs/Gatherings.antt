-- What is gathered, one snapshot after the other.
use Rattle.std.proofs.Common.{◌≡◌, ◌∙◌, ◌+◌, ◌<◌, ◌≤◌, ◌⊎◌, inl, inr, ℕ, zero, suc, Bool, true, List, [], ◌∷◌, ◌++◌, Result, Ok, Err, append-nil, append_assoc, ap, arith, drop, get_or, length, refl, subst, sym}
use Rattle.std.specs.List.{Contains}
use Rattle.std.specs.Result.{IsErr, IsErrAnd}
use Rattle.std.proofs.lemmas.List.{drop_more}
use Rattle.retro_base.specs.Cause.{Rose}
use Rattle.retro_base.specs.Gives.{◌>>=◌}
use Rattle.retro_base.specs.declared.refusal.Refusal.{Refusal}
use Rattle.retro_base.specs.declared.refusal.Refusal.TheVariants.{OutOfMemory}
use Rattle.pager.specs.Stop.{Allowed, AllowedStop}
use Rattle.pager.specs.declared.stop.Stop.{Stop}
use Rattle.pager.specs.declared.stop.Stop.TheVariants as stop
use Rattle.sql_tree.specs.declared.statement.Column.{Column}
use Rattle.sql_select.specs.Each.{each, onto}
use Rattle.sql_select.specs.declared.answer.Answer.{Answer}
use Rattle.rql.specs.AsOf.{Answers, IsOfCall, IsOfSnapshot, OnlyAsks}
use Rattle.rql.specs.Columns.{same_columns}
use Rattle.rql.specs.Gathering.{Take, gathered, taken, taken_later}
use Rattle.rql.proofs.SameColumns.{columns_are}

module _ {X : Type 0} (f : ℕ → Result X Refusal) where
  onto_both : (front : List X) (x : X) (r : Result (List X) Refusal) → onto front (r >>= (λ xs. Ok (x ∷ xs))) ≡ onto (front ++ x ∷ []) r
  onto_both front x (Ok xs) = ap (λ l. Ok l) (sym (append_assoc front (x ∷ []) xs))
  onto_both front x (Err why) = refl

  module _ (snapshots : List ℕ) (i : ℕ) (inside : i < length snapshots) where
    abbrev here : ℕ
    here = get_or snapshots i 0

    more : (parts : List X) (x : X) → f here ≡ Ok x → onto parts (each f (drop i snapshots)) ≡ onto (parts ++ x ∷ []) (each f (drop (i + 1) snapshots))
    more parts x e =
        ap (λ l. onto parts (each f l)) (drop_more snapshots i 0 inside)
        ∙ ap (λ r. onto parts (r >>= (λ y. each f (drop (i + 1) snapshots) >>= (λ ys. Ok (y ∷ ys))))) e
        ∙ onto_both parts x (each f (drop (i + 1) snapshots))

    stops_here : (parts : List X) (why : Refusal) → f here ≡ Err why → onto parts (each f (drop i snapshots)) ≡ Err why
    stops_here parts why e =
        ap (λ l. onto parts (each f l)) (drop_more snapshots i 0 inside)
        ∙ ap (λ r. onto parts (r >>= (λ y. each f (drop (i + 1) snapshots) >>= (λ ys. Ok (y ∷ ys))))) e

    module _ {C : Type 0} (columns : C) (parts : List X) (whole : Result (C × List X) Refusal) (so_far : onto parts (each f (drop i snapshots)) >>= (λ ps. Ok (columns, ps)) ≡ whole) where
      -- one part more
      pub continues : (x : X) (after : List X) → f here ≡ Ok x → after ≡ parts ++ x ∷ [] → onto after (each f (drop (i + 1) snapshots)) >>= (λ ps. Ok (columns, ps)) ≡ whole
      continues x after e pushed =
          ap (λ l. onto l (each f (drop (i + 1) snapshots)) >>= (λ ps. Ok (columns, ps))) pushed
          ∙ sym (ap (λ r. r >>= (λ ps. Ok (columns, ps))) (more parts x e))
          ∙ so_far

      -- a refusal
      pub refuses : (why : Refusal) → f here ≡ Err why → whole ≡ Err why
      refuses why e = sym so_far ∙ ap (λ r. r >>= (λ ps. Ok (columns, ps))) (stops_here parts why e)

  drop_all : (snapshots : List ℕ) (i : ℕ) → length snapshots ≤ i → drop i snapshots ≡ []
  drop_all [] zero le = refl
  drop_all [] (suc i) le = refl
  drop_all (n ∷ snapshots) zero le = absurd (omega arith)
  drop_all (n ∷ snapshots) (suc i) le = drop_all snapshots i (omega arith)

  -- no snapshot more
  pub ends : {C : Type 0} (snapshots : List ℕ) (i : ℕ) (columns : C) (parts : List X) (whole : Result (C × List X) Refusal) → length snapshots ≤ i
      → onto parts (each f (drop i snapshots)) >>= (λ ps. Ok (columns, ps)) ≡ whole → whole ≡ Ok (columns, parts)
  ends snapshots i columns parts whole le so_far =
      sym so_far ∙ ap (λ l. onto parts (each f l) >>= (λ ps. Ok (columns, ps))) (drop_all snapshots i le) ∙ ap (λ l. Ok (columns, l)) (append-nil parts)

-- what is gathered, where so many parts are taken of the later snapshots
abbrev pub SoFar : {X : Type 0} → Take X → (ℕ → Result Answer Refusal) → List Column → List X → ℕ → List ℕ → List ℕ → Type 0
SoFar take answer columns parts i later snapshots =
    onto parts (each (taken_later take answer columns) (drop i later)) >>= (λ parts. Ok (columns, parts)) ≡ gathered take answer snapshots

module _ {X : Type 0} (take : Take X) (answer : ℕ → Result Answer Refusal) (columns : List Column) (parts : List X) (i : ℕ) (later snapshots : List ℕ) (inside : List Column) (seen : inside ≡ columns) (so_far : SoFar take answer inside parts i later snapshots) where
  at_columns : SoFar take answer columns parts i later snapshots
  at_columns = let P : List Column → Type 0 = λ cols. SoFar take answer cols parts i later snapshots in subst P seen so_far

  pub gathers_more : i < length later → (x : X) (after : List X) → taken_later take answer columns (get_or later i 0) ≡ Ok x → after ≡ parts ++ x ∷ [] → SoFar take answer inside after (i + 1) later snapshots
  gathers_more lt x after e pushed =
      let P : List Column → Type 0 = λ cols. SoFar take answer cols after (i + 1) later snapshots in
      subst P (sym seen) (continues (taken_later take answer columns) later i lt columns parts (gathered take answer snapshots) at_columns x after e pushed)

  pub gathers_refusal : i < length later → (why : Refusal) → taken_later take answer columns (get_or later i 0) ≡ Err why → gathered take answer snapshots ≡ Err why
  gathers_refusal lt why e = refuses (taken_later take answer columns) later i lt columns parts (gathered take answer snapshots) at_columns why e

  pub gathers_all : length later ≤ i → gathered take answer snapshots ≡ Ok (columns, parts)
  gathers_all le = ends (taken_later take answer columns) later i columns parts (gathered take answer snapshots) le at_columns

-- the part of the first
part_behind : {X : Type 0} (columns : List Column) (part : X) (r : Result (List X) Refusal)
    → ◌≡◌ {A = Result (List Column × List X) Refusal} (onto (part ∷ []) r >>= (λ parts. Ok (columns, parts))) (r >>= (λ parts. Ok (columns, part ∷ parts)))
part_behind columns part (Ok parts) = refl
part_behind columns part (Err why) = refl

pub gathers_first : {X : Type 0} (take : Take X) (answer : ℕ → Result Answer Refusal) (columns : List Column) (part : X) (first : ℕ) (later snapshots : List ℕ)
    → snapshots ≡ first ∷ later → taken take answer first ≡ Ok (columns, part) → SoFar take answer columns (part ∷ []) 0 later snapshots
gathers_first take answer columns part first later snapshots split e =
    rw (split, e) (part_behind columns part (each (taken_later take answer columns) later))

-- what is taken of a later answer with the first's columns
module _ {X : Type 0} (take : Take X) (answer : ℕ → Result Answer Refusal) (columns : List Column) (snapshot : ℕ) (later : Answer)
    (answered : answer snapshot ≡ Ok later) (alike : same_columns columns later.columns ≡ true) where
  of_its : (r : Result X Refusal) → take snapshot columns later.rows ≡ r → take snapshot later.columns later.rows ≡ r
  of_its r e = let P : List Column → Type 0 = λ l. take snapshot l later.rows ≡ r in subst P (columns_are columns later.columns alike) e

  pub taken_again : (r : Result X Refusal) → take snapshot columns later.rows ≡ r → taken_later take answer columns snapshot ≡ r
  taken_again (Ok part) e = rw (answered, of_its (Ok part) e, alike) refl
  taken_again (Err why) e = rw (answered, of_its (Err why) e) refl

  pub refused_again : {F : Type 0} (why : Refusal) (result : Result X (Stop F)) → IsErrAnd result (λ s. s ≡ stop.Refused why) → (why ≡ OutOfMemory) ⊎ (take snapshot columns later.rows ≡ Err why)
      → Allowed (λ part. part) (λ r. taken_later take answer columns snapshot ≡ r) result
  refused_again why (Ok part) refused said = absurd refused
  refused_again why (Err s) refused (inl memory) = rw refused (inl memory)
  refused_again why (Err s) refused (inr e) = rw refused (inr (taken_again (Err why) e))

-- what stopped a call stopped the one round it
pub stops_round : {F : Type 0} (inner outer : Refusal → Type 0) (why : Stop F) → AllowedStop inner why → ((refusal : Refusal) → inner refusal → outer refusal) → AllowedStop outer why
stops_round inner outer (stop.Refused refusal) (inl e) step = inl e
stops_round inner outer (stop.Refused refusal) (inr e) step = inr (step refusal e)
stops_round inner outer (stop.Pager fault) h step = tt

pub handed_on : {X Y F : Type 0} (view : X → Y) (allows : Result Y Refusal → Type 0) (result : Result X (Stop F)) (why : Stop F) → IsErr result × IsErrAnd result (λ e. e ≡ why)
    → AllowedStop (λ refusal. allows (Err refusal)) why → Allowed view allows result
handed_on view allows (Ok x) why h said = absurd h.1
handed_on {F = F} view allows (Err e) why h said = let P : Stop F → Type 0 = λ s. AllowedStop (λ refusal. allows (Err refusal)) s in subst P (sym h.1) said

-- what a call makes of what was gathered, and then of that
module _ {X Y Z : Type 0} (whole : Result X Refusal) (make : X → Result Y Refusal) (finish : X → Y → Z) (found : X) (is : whole ≡ Ok found) where
  abbrev pub ending : Result Z Refusal
  ending = whole >>= (λ x. make x >>= (λ y. Ok (finish x y)))

  ending_by : (made : Result Y Refusal) → make found ≡ made → ending ≡ made >>= (λ y. Ok (finish found y))
  ending_by made e = ap (λ r. r >>= (λ x. make x >>= (λ y. Ok (finish x y)))) is ∙ ap (λ r. r >>= (λ y. Ok (finish found y))) e

  pub ends_made : (y : Y) (z : Z) → make found ≡ Ok y → z ≡ finish found y → ending ≡ Ok z
  ends_made y z e same = ending_by (Ok y) e ∙ ap (λ z. Ok z) (sym same)

  pub ends_refused : {F : Type 0} (why : Refusal) (result : Result Z (Stop F)) → IsErrAnd result (λ s. s ≡ stop.Refused why) → (why ≡ OutOfMemory) ⊎ (make found ≡ Err why) → Allowed (λ z. z) (λ r. ending ≡ r) result
  ends_refused why (Ok z) refused said = absurd refused
  ends_refused why (Err s) refused (inl memory) = rw refused (inl memory)
  ends_refused why (Err s) refused (inr e) = rw refused (inr (ending_by (Err why) e))

module _ {A X Y F : Type 0} (may_ask : A → ℕ → Bool) (told : A → Answers → Type 0) (goes : A → A → Type 0) (on : (a b c : A) → goes a b → goes b c → goes a c) (faults : A → ℕ) (inner outer : Refusal → Type 0) (step : (refusal : Refusal) → inner refusal → outer refusal) (before mid after : A)
    (same_asks : may_ask mid ≡ may_ask before) (same_told : (answers : Answers) → told before answers → told mid answers) (same_goes : goes before mid) (same_faults : faults mid ≡ faults before) where
  asks_by : (why : Stop F) → OnlyAsks {X = X} may_ask told goes faults inner mid after (Err why) → OnlyAsks {X = Y} may_ask told goes faults outer before after (Err why)
  asks_by (stop.Refused refusal) asks = record {
    may_ask_stays = asks.may_ask_stays ∙ same_asks;
    told_stays = λ answers e. asks.told_stays answers (same_told answers e);
    goes_on = on before mid after same_goes asks.goes_on;
    cause = asks.cause ∙ same_faults;
    named = step refusal asks.named;
  }
  asks_by (stop.Pager fault) asks = record {
    may_ask_stays = asks.may_ask_stays ∙ same_asks;
    told_stays = λ answers e. asks.told_stays answers (same_told answers e);
    goes_on = on before mid after same_goes asks.goes_on;
    cause = let P : ℕ → Type 0 = λ n. Rose n (faults after) in subst P same_faults asks.cause;
    named = tt;
  }

  -- a call that ended early after others that had not
  pub asks_on : (result : Result Y (Stop F)) (why : Stop F) → IsErr result × IsErrAnd result (λ e. e ≡ why)
      → OnlyAsks {X = X} may_ask told goes faults inner mid after (Err why) → OnlyAsks {X = Y} may_ask told goes faults outer before after result
  asks_on (Ok y) why h asks = absurd h.1
  asks_on (Err e) why h asks = let P : Stop F → Type 0 = λ s. OnlyAsks {X = Y} may_ask told goes faults outer before after (Err s) in subst P (sym h.1) (asks_by why asks)

-- want of memory, after calls that had not ended early
pub asks_out : {A Y F : Type 0} (may_ask : A → ℕ → Bool) (told : A → Answers → Type 0) (goes : A → A → Type 0) (faults : A → ℕ) (allowed : Refusal → Type 0) (before after : A)
    → may_ask after ≡ may_ask before → ((answers : Answers) → told before answers → told after answers) → goes before after → faults after ≡ faults before → allowed OutOfMemory
    → (result : Result Y (Stop F)) → IsErrAnd result (λ s. s ≡ stop.Refused OutOfMemory) → OnlyAsks {X = Y} may_ask told goes faults allowed before after result
asks_out may_ask told goes faults allowed before after same_asks same_told same_goes same_faults out (Ok y) refused = absurd refused
asks_out {Y = Y} {F = F} may_ask told goes faults allowed before after same_asks same_told same_goes same_faults out (Err s) refused =
    let P : Stop F → Type 0 = λ s. OnlyAsks {X = Y} may_ask told goes faults allowed before after (Err s) in
    subst P (sym refused) (record { may_ask_stays = same_asks; told_stays = same_told; goes_on = same_goes; cause = same_faults; named = out })

-- the refusals at one snapshot of a list are those of a call over the list
pub of_snapshot : (snapshots : List ℕ) (snapshot : ℕ) → Contains snapshots snapshot → (refusal : Refusal) → IsOfSnapshot snapshot refusal → IsOfCall snapshots refusal
of_snapshot snapshots snapshot among refusal (inl e) = inl e
of_snapshot snapshots snapshot among refusal (inr e) = inr (snapshot, among, e)

pub among : (first : ℕ) (later snapshots : List ℕ) (i : ℕ) → i < length later → snapshots ≡ first ∷ later → Contains snapshots (get_or later i 0)
among first later snapshots i inside e =
    let P : List ℕ → Type 0 = λ l. Contains l (get_or later i 0) in subst P (sym e) (suc i, omega arith, same later i inside)
  where
    same : (later : List ℕ) (i : ℕ) → i < length later → get_or later i (get_or later i 0) ≡ get_or later i 0
    same [] i lt = absurd (omega arith)
    same (n ∷ later) zero lt = refl
    same (n ∷ later) (suc i) lt = same later i (omega arith)
