-- The laws of expressions and conditions that were checked.
use Rattle.std.proofs.Common.{◌≡◌, ◌∙◌, ℕ, zero, suc, ℤ, pos, Bool, true, false, ◌&&◌, ◌||◌, not, Option, Some, None, List, [], ◌∷◌, Result, Ok, Err, refl, ap, sym, subst}
use Rattle.std.specs.Prelude.{IsOk, is_none, slice_get}
use Rattle.std.specs.Option.{option_map}
use Rattle.retro_base.specs.Gives.{◌>>=◌}
use Rattle.retro_base.specs.declared.refusal.Refusal.{Refusal}
use Rattle.values.specs.declared.value.Kind.{Kind}
use Rattle.values.specs.declared.value.Kind.TheVariants as kind
use Rattle.values.specs.declared.value.Value.{Value}
use Rattle.values.specs.declared.value.Value.TheVariants.{Int, Text}
use Rattle.values.specs.Value as value
use Rattle.sql_tree.specs.declared.condition.Comparison.{Comparison}
use Rattle.sql_tree.specs.declared.condition.Operand.{Operand}
use Rattle.sql_tree.specs.declared.condition.Operand.TheVariants as operand
use Rattle.sql_tree.specs.declared.expression.Operator.{Operator}
use Rattle.sql_tree.specs.declared.schema.TableSchema.{TableSchema}
use Rattle.sql_tree.specs.declared.statement.Column.{Column as ColumnRecord}
use Rattle.sql_tree.specs.Condition.{Compare, Not, And, Or}
use Rattle.sql_tree.specs.Evaluation.{applied, column_value, compared, in_range, is_true, found_value, narrow, operand_value, result_of, value_at, value_of}
use Rattle.sql_tree.specs.Evaluation as evaluation
use Rattle.sql_tree.specs.Expression.{Literal, Column, CurrentSnapshot, Apply}
use Rattle.sql_tree.specs.Scope.{columns_of, kind_in, place_of}
use Rattle.sql_kinds.specs.Expressions.{agree, compares_apart, has_unknown, has_unknown_operand, int_if, is_int, is_unknown_operand, kind_of, operand_kind}
use Rattle.sql_kinds.specs.Laws.{ConditionsAreDecided, ExpressionsKeepTheirKind, IsOfKind}
use Rattle.sql_tree.specs.Rows.{same_kind, fits}
use Rattle.sql_kinds.proofs.Truths.{and_both, or_none}

-- the value that is there, of the kind
abbrev HasKind : Kind → Result Value Refusal → Type 0
HasKind k result = (v : Value) × (result ≡ Ok v) × (value.kind_of v ≡ k)

some_kind : (a b : Kind) → Some a ≡ Some b → a ≡ b
some_kind a b e = cc

same_is : (a b : Kind) → same_kind a b ≡ true → b ≡ a
same_is kind.Int kind.Int e = refl
same_is kind.Int kind.Text e = cc
same_is kind.Text kind.Int e = cc
same_is kind.Text kind.Text e = refl

-- a row that fits has at each place a value of the column's kind
at_place : (columns : List ColumnRecord) (row : List Value) (place : ℕ) (k : Kind) → fits columns row ≡ true → option_map (λ (c : ColumnRecord). c.kind) (slice_get columns place) ≡ Some k → (v : Value) × (slice_get row place ≡ Some v) × (value.kind_of v ≡ k)
at_place [] row place k fit e = let no : ⊥ = cc in absurd no
at_place (c ∷ columns) [] place k fit e = let no : ⊥ = cc in absurd no
at_place (c ∷ columns) (v ∷ row) zero k fit e =
    let here = and_both (same_kind c.kind (value.kind_of v)) (fits columns row) fit in
    (v, refl, same_is c.kind (value.kind_of v) here.0 ∙ some_kind c.kind k e)
at_place (c ∷ columns) (v ∷ row) (suc place) k fit e =
    let here = and_both (same_kind c.kind (value.kind_of v)) (fits columns row) fit in
    at_place columns row place k here.1 e

column_at : (columns : List ColumnRecord) (row : List Value) (place : Option ℕ) (k : Kind) → fits columns row ≡ true → kind_in columns place ≡ Some k → HasKind k (found_value (value_at row place))
column_at columns row None k fit e = let no : ⊥ = cc in absurd no
column_at columns row (Some place) k fit e =
    let found = at_place columns row place k fit e in
    (found.0, ap found_value found.1, found.2)

snapshot_is : (snapshot : Option ℕ) → is_none snapshot ≡ false → HasKind kind.Int (evaluation.snapshot_value snapshot)
snapshot_is None e = let no : ⊥ = cc in absurd no
snapshot_is (Some n) e = (Int (pos n), refl, refl)

of_kind : (k : Kind) (result : Result Value Refusal) → HasKind k result → IsOfKind k result
of_kind k result h = subst (IsOfKind k) (sym h.1) h.2

narrowed : (z : Option ℤ) → IsOfKind kind.Int (in_range z)
narrowed None = refl
narrowed (Some z) = refl

-- an operator between two numbers gives a number, or leaves i64
applied_is : (operator : Operator) (a b : Value) → value.kind_of a ≡ kind.Int → value.kind_of b ≡ kind.Int → IsOfKind kind.Int (applied operator a b)
applied_is operator (Int m) (Int n) p q = narrowed (narrow (result_of operator m n))
applied_is operator (Int m) (Text t) p q = let no : ⊥ = cc in absurd no
applied_is operator (Text s) b p q = let no : ⊥ = cc in absurd no

apply_is : (operator : Operator) (a b : Result Value Refusal) → IsOfKind kind.Int a → IsOfKind kind.Int b → IsOfKind kind.Int (a >>= (λ x. b >>= (λ y. applied operator x y)))
apply_is operator (Ok a) (Ok b) p q = applied_is operator a b p q
apply_is operator (Ok a) (Err e) p q = q
apply_is operator (Err e) b p q = p

int_if_some : (test : Bool) (k : Kind) → int_if test ≡ Some k → (test ≡ true) × (k ≡ kind.Int)
int_if_some true k e = (refl, sym (some_kind kind.Int k e))
int_if_some false k e = let no : ⊥ = cc in absurd no

is_int_some : (k : Option Kind) → is_int k ≡ true → k ≡ Some kind.Int
is_int_some None e = cc
is_int_some (Some kind.Int) e = refl
is_int_some (Some kind.Text) e = cc

pub expressions_keep_their_kind : ExpressionsKeepTheirKind
expressions_keep_their_kind scope snapshot row (Literal v) k fit names e = some_kind (value.kind_of v) k e
expressions_keep_their_kind scope snapshot row (Column name) k fit names e =
    of_kind k (column_value scope row name) (column_at (columns_of scope) row (place_of scope name) k fit e)
expressions_keep_their_kind scope snapshot row CurrentSnapshot k fit names e =
    subst (λ (w : Kind). IsOfKind w (evaluation.snapshot_value snapshot)) (some_kind kind.Int k e) (of_kind kind.Int (evaluation.snapshot_value snapshot) (snapshot_is snapshot names))
expressions_keep_their_kind scope snapshot row (Apply operator left right) k fit names e =
    let number = int_if_some (is_int (kind_of scope left) && is_int (kind_of scope right)) k e in
    let both = and_both (is_int (kind_of scope left)) (is_int (kind_of scope right)) number.0 in
    let known_names = or_none (has_unknown scope snapshot left) (has_unknown scope snapshot right) names in
    let a = expressions_keep_their_kind scope snapshot row left kind.Int fit known_names.0 (is_int_some (kind_of scope left) both.0) in
    let b = expressions_keep_their_kind scope snapshot row right kind.Int fit known_names.1 (is_int_some (kind_of scope right) both.1) in
    subst (λ (w : Kind). IsOfKind w (value_of scope snapshot row (Apply operator left right))) (sym number.1) (apply_is operator (value_of scope snapshot row left) (value_of scope snapshot row right) a b)

-- a side of a comparison has a value of its kind
operand_is : (scope : List TableSchema) (snapshot : Option ℕ) (row : List Value) (of : Operand) (k : Kind) → fits (columns_of scope) row ≡ true → is_unknown_operand scope snapshot of ≡ false → operand_kind scope of ≡ Some k → HasKind k (operand_value scope snapshot row of)
operand_is scope snapshot row (operand.Column name) k fit names e = column_at (columns_of scope) row (place_of scope name) k fit e
operand_is scope snapshot row (operand.Literal v) k fit names e = (v, refl, some_kind (value.kind_of v) k e)
operand_is scope snapshot row operand.CurrentSnapshot k fit names e =
    subst (λ (w : Kind). HasKind w (evaluation.snapshot_value snapshot)) (some_kind kind.Int k e) (snapshot_is snapshot names)

agree_some : (a b : Option Kind) → not (agree a b) ≡ false → (k : Kind) × (a ≡ Some k) × (b ≡ Some k)
agree_some None b e = let no : ⊥ = cc in absurd no
agree_some (Some a) None e = let no : ⊥ = cc in absurd no
agree_some (Some kind.Int) (Some kind.Int) e = (kind.Int, refl, refl)
agree_some (Some kind.Int) (Some kind.Text) e = let no : ⊥ = cc in absurd no
agree_some (Some kind.Text) (Some kind.Int) e = let no : ⊥ = cc in absurd no
agree_some (Some kind.Text) (Some kind.Text) e = (kind.Text, refl, refl)

compared_is : (comparison : Comparison) (a b : Value) → value.kind_of a ≡ value.kind_of b → IsOk (compared comparison a b)
compared_is comparison (Int m) (Int n) e = refl
compared_is comparison (Int m) (Text t) e = let no : ⊥ = cc in absurd no
compared_is comparison (Text s) (Int n) e = let no : ⊥ = cc in absurd no
compared_is comparison (Text s) (Text t) e = refl

both_compared : (comparison : Comparison) (k : Kind) (a b : Result Value Refusal) → HasKind k a → HasKind k b → IsOk (a >>= (λ x. b >>= (λ y. compared comparison x y)))
both_compared comparison k a b p q = rw (p.1, q.1) (compared_is comparison p.0 q.0 (p.2 ∙ sym q.2))

one_decided : (f : Bool → Bool) (a : Result Bool Refusal) → IsOk a → IsOk (a >>= (λ x. Ok (f x)))
one_decided f (Ok a) p = refl
one_decided f (Err e) p = p

two_decided : (f : Bool → Bool → Bool) (a b : Result Bool Refusal) → IsOk a → IsOk b → IsOk (a >>= (λ x. b >>= (λ y. Ok (f x y))))
two_decided f (Ok a) (Ok b) p q = refl
two_decided f (Ok a) (Err e) p q = q
two_decided f (Err e) b p q = p

pub conditions_are_decided : ConditionsAreDecided
conditions_are_decided scope snapshot row (Compare left comparison right) fit names apart =
    let sides = agree_some (operand_kind scope left) (operand_kind scope right) apart in
    let known_names = or_none (is_unknown_operand scope snapshot left) (is_unknown_operand scope snapshot right) names in
    both_compared comparison sides.0 (operand_value scope snapshot row left) (operand_value scope snapshot row right)
    (operand_is scope snapshot row left sides.0 fit known_names.0 sides.1)
    (operand_is scope snapshot row right sides.0 fit known_names.1 sides.2)
conditions_are_decided scope snapshot row (Not a) fit names apart = one_decided not (is_true scope snapshot row a) (conditions_are_decided scope snapshot row a fit names apart)
conditions_are_decided scope snapshot row (And a b) fit names apart =
    let known_names = or_none (has_unknown_operand scope snapshot a) (has_unknown_operand scope snapshot b) names in
    let alike = or_none (compares_apart scope a) (compares_apart scope b) apart in
    two_decided ◌&&◌ (is_true scope snapshot row a) (is_true scope snapshot row b) (conditions_are_decided scope snapshot row a fit known_names.0 alike.0) (conditions_are_decided scope snapshot row b fit known_names.1 alike.1)
conditions_are_decided scope snapshot row (Or a b) fit names apart =
    let known_names = or_none (has_unknown_operand scope snapshot a) (has_unknown_operand scope snapshot b) names in
    let alike = or_none (compares_apart scope a) (compares_apart scope b) apart in
    two_decided ◌||◌ (is_true scope snapshot row a) (is_true scope snapshot row b) (conditions_are_decided scope snapshot row a fit known_names.0 alike.0) (conditions_are_decided scope snapshot row b fit known_names.1 alike.1)
