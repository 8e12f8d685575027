-- What the arguments of a call say together.
use Rattle.std.proofs.Common.{◌≡◌, ◌∙◌, ◌<◌, ◌&&◌, ◌==◌, ◌≤◌, ℕ, zero, suc, Bool, true, false, IsTrue, Option, Some, None, List, [], ◌∷◌, length, nat_le, refl, sym, ap, subst, arith}
use Rattle.std.proofs.lemmas.Bool.Decides.{nat_tests}
use Rattle.std.specs.List.{list_all, starts_with}
use Rattle.std.specs.Prelude.{codes, nat_eq}
use Rattle.rql.specs.declared.function.Function.{Function}
use Rattle.rql.specs.declared.pair.Pair.{Pair}
use Rattle.sql_parts.specs.declared.parsed.Mechanism.{Mechanism}
use Rattle.sql_parts.specs.declared.parsed.Mechanism.TheVariants as mechanism
use Rattle.sql_parts.specs.declared.parsed.RqlCall.{RqlCall}
use Rattle.values.specs.Name.{IsName, begins_word, continues_word}
use Rattle.sql_tree.specs.declared.select.Select.{Select}
use Rattle.rql_arguments.specs.Calls.{HasForm, IsCall, IsCombination, IsFirstOutside}
use Rattle.rql_arguments.specs.Forms.{ArePairs, IsQuery, IsSnapshotQuery, function_named, is_result_word}
use Rattle.rql_arguments.specs.Reading.{Finds, IsOnly, SaysNone}
use Rattle.rql_arguments.specs.declared.call.Call.{Call}
use Rattle.rql_arguments.specs.declared.call.Combination.{Combination}
use Rattle.rql_arguments.specs.declared.call.Combination.TheVariants as combination

-- the fourth argument
pub collates : Finds (IsCombination mechanism.CollateData) (Some combination.Collate)
collates = (tt, only)
  where
    only : (other : Combination) → IsCombination mechanism.CollateData other → other ≡ combination.Collate
    only combination.Collate h = refl
    only other h = absurd h

pub intervals : Finds (IsCombination mechanism.CollateDataIntoIntervals) (Some combination.Intervals)
intervals = (tt, only)
  where
    only : (other : Combination) → IsCombination mechanism.CollateDataIntoIntervals other → other ≡ combination.Intervals
    only combination.Intervals h = refl
    only other h = absurd h

pub names_function : (text : List ℕ) (f : Function) → function_named text ≡ Some f → Finds (IsCombination (mechanism.AggregateDataInVariable text)) (Some (combination.InVariable f))
names_function text f e = (e, only)
  where
    only : (other : Combination) → IsCombination (mechanism.AggregateDataInVariable text) other → other ≡ combination.InVariable f
    only (combination.InVariable g) h = let same : Some g ≡ Some f = sym h ∙ e in cc
    only other h = absurd h

pub names_none : (text : List ℕ) → function_named text ≡ None → Finds (IsCombination (mechanism.AggregateDataInVariable text)) None
names_none text e (combination.InVariable g) h = let same : Some g ≡ None = sym h ∙ e in cc
names_none text e other h = absurd h

pub has_pairs : (text : List ℕ) (ps : List Pair) → IsOnly (ArePairs text) ps → Finds (IsCombination (mechanism.AggregateDataInTable text)) (Some (combination.InTable ps))
has_pairs text ps q = (q.0, only)
  where
    only : (other : Combination) → IsCombination (mechanism.AggregateDataInTable text) other → other ≡ combination.InTable ps
    only (combination.InTable qs) h = ap combination.InTable (q.1 qs h)
    only other h = absurd h

pub has_no_pairs : (text : List ℕ) → SaysNone (ArePairs text) → Finds (IsCombination (mechanism.AggregateDataInTable text)) None
has_no_pairs text none (combination.InTable qs) h = none qs h
has_no_pairs text none other h = absurd h

-- a word that begins with `rql_` is a name
both : (a b c : Bool) → (a && b && c) ≡ true → (a ≡ true) × (b ≡ true) × (c ≡ true)
both true true true e = (refl, refl, refl)
both true true false e = cc
both true false c e = cc
both false b c e = cc

first_is : (b : ℕ) (bs : List ℕ) → starts_with nat_eq (b ∷ bs) (codes "rql_") ≡ true → b ≡ 114
first_is b bs e = grind (arith, nat_tests)

rest_of : (b : ℕ) (bs : List ℕ) → list_all continues_word (b ∷ bs) ≡ true → list_all continues_word bs ≡ true
rest_of b bs e = by_first (continues_word b) (list_all continues_word bs) e
  where
    by_first : (x y : Bool) → (x && y) ≡ true → y ≡ true
    by_first true y h = h
    by_first false y h = cc

pub result_is_name : (text : List ℕ) → is_result_word text ≡ true → IsName text
result_is_name [] e = cc
result_is_name (b ∷ bs) e =
    let f = both (nat_le (length (b ∷ bs)) 32) (starts_with nat_eq (b ∷ bs) (codes "rql_")) (list_all continues_word (b ∷ bs)) e in
    (ap begins_word (first_is b bs f.1), rest_of b bs f.2, grind (arith, nat_tests, f.0))

-- the first argument outside its form
pub first_outside : (call : RqlCall) → SaysNone (IsSnapshotQuery call.snapshots) → IsFirstOutside call 0
first_outside call none = record { outside = λ h. none h.0 h.1; before = λ earlier lt. absurd (omega (arith, lt)) }

before_two : (call : RqlCall) → HasForm call 0 → (earlier : ℕ) → earlier < 1 → HasForm call earlier
before_two call a zero lt = a
before_two call a (suc n) lt = absurd (omega (arith, lt))

pub second_outside : (call : RqlCall) (query : Select) → IsSnapshotQuery call.snapshots query → SaysNone (IsQuery call.query) → IsFirstOutside call 1
second_outside call query s none = record { outside = λ h. none h.0 h.1; before = before_two call (query, s) }

before_three : (call : RqlCall) → HasForm call 0 → HasForm call 1 → (earlier : ℕ) → earlier < 2 → HasForm call earlier
before_three call a b zero lt = a
before_three call a b (suc zero) lt = b
before_three call a b (suc (suc n)) lt = absurd (omega (arith, lt))

pub third_outside : (call : RqlCall) (snapshots query : Select) → IsSnapshotQuery call.snapshots snapshots → IsQuery call.query query → is_result_word call.table ≡ false → IsFirstOutside call 2
third_outside call snapshots query s q e = record { outside = λ h. let t : true ≡ false = sym h ∙ e in cc; before = before_three call (snapshots, s) (query, q) }

before_four : (call : RqlCall) → HasForm call 0 → HasForm call 1 → HasForm call 2 → (earlier : ℕ) → earlier < 3 → HasForm call earlier
before_four call a b c zero lt = a
before_four call a b c (suc zero) lt = b
before_four call a b c (suc (suc zero)) lt = c
before_four call a b c (suc (suc (suc n))) lt = absurd (omega (arith, lt))

pub fourth_outside : (call : RqlCall) (snapshots query : Select) → IsSnapshotQuery call.snapshots snapshots → IsQuery call.query query → is_result_word call.table ≡ true → SaysNone (IsCombination call.mechanism) → IsFirstOutside call 3
fourth_outside call snapshots query s q e none = record { outside = λ h. none h.0 h.1; before = before_four call (snapshots, s) (query, q) e }

-- the one reading of a call
same_call : (a b : Select) (c d : Select) (m n : List ℕ) (x y : Combination) → a ≡ b → c ≡ d → m ≡ n → x ≡ y
    → (let one : Call = record { snapshots = a; query = c; table = m; combination = x } in one) ≡ record { snapshots = b; query = d; table = n; combination = y }
same_call a b c d m n x y e f g h = cc

pub one_call : (call : RqlCall) (snapshots query : Select) (table : List ℕ) (x : Combination) → IsOnly (IsSnapshotQuery call.snapshots) snapshots → IsOnly (IsQuery call.query) query → table ≡ call.table
    → IsOnly (IsCombination call.mechanism) x → (other : Call) → IsCall call other → other ≡ record { snapshots = snapshots; query = query; table = table; combination = x }
one_call call snapshots query table x s q t c other h =
    same_call _ _ _ _ _ _ _ _ (s.1 other.snapshots h.snapshots) (q.1 other.query h.query) (h.table ∙ sym t) (c.1 other.combination h.combination)
