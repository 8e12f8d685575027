-- The sorts of the parts that each rule takes and leaves: a computed check, rule by rule.
use Rattle.std.proofs.Common.{◌≡◌, ◌∙◌, ℕ, Option, Some, None, List, [], ◌∷◌, ◌++◌, refl, sym}
use Rattle.std.specs.List.{AllByRecursion}
use Rattle.sql_grammar.specs.declared.grammar.Class.{Class}
use Rattle.sql_grammar.specs.declared.grammar.Class.TheVariants as class
use Rattle.sql_grammar.specs.declared.grammar.Room.{Room}
use Rattle.sql_grammar.specs.declared.grammar.Room.TheVariants.{Fifteen, Fourteen, Thirteen, Twelve, Eleven, Ten, Nine, Eight, Seven, Six, Five, Four, Three, Two, One}
use Rattle.sql_grammar.specs.declared.grammar.Rule.{Rule}
use Rattle.sql_grammar.specs.declared.grammar.Rule.TheVariants as rule
use Rattle.sql_grammar.specs.declared.grammar.Symbol.{Symbol}
use Rattle.sql_grammar.specs.declared.grammar.Symbol.TheVariants.{Take, Put, Use}
use Rattle.sql_grammar.specs.Grammar.{sides}
use Rattle.sql_build.proofs.Sorts.{Adds, Cell, Effect, Exactly, Needs, Same, Shape, after, alike, columns, from, put_effect, shape, to, worked}
use Rattle.sql_build.proofs.Sorts as sort

-- how many columns a table has where so many may still come
abbrev taken_columns : Room → ℕ
taken_columns Fifteen = 1
taken_columns Fourteen = 2
taken_columns Thirteen = 3
taken_columns Twelve = 4
taken_columns Eleven = 5
taken_columns Ten = 6
taken_columns Nine = 7
taken_columns Eight = 8
taken_columns Seven = 9
taken_columns Six = 10
taken_columns Five = 11
taken_columns Four = 12
taken_columns Three = 13
taken_columns Two = 14
taken_columns One = 15

-- the effect of a rule, where all its right sides have the same
abbrev pub use_effect : Rule → Option Effect
use_effect rule.Sentence = None
use_effect rule.Selected = None
use_effect (rule.MoreColumns r) = Some (alike ((sort.Table, taken_columns r) ∷ []) ((sort.Plain, 0) ∷ []))
use_effect rule.Created = Some (alike ([]) ((sort.Plain, 0) ∷ []))
use_effect rule.Column = Some (alike ([]) ((sort.Column, 0) ∷ []))
use_effect rule.Kind = Some (alike ((sort.Name, 0) ∷ []) ((sort.Column, 0) ∷ []))
use_effect rule.Tuple = Some (alike ([]) ((sort.Row, 0) ∷ []))
use_effect rule.MoreValues = Some (alike ((sort.Row, 0) ∷ []) ((sort.Row, 0) ∷ []))
use_effect rule.MoreTuples = Some (alike ((sort.Insert, 0) ∷ []) ((sort.Insert, 0) ∷ []))
use_effect rule.Assignment = Some (record { pops = []; pushes = (sort.Assignment, 0) ∷ []; trees = Exactly 0 0; conditions = Same })
use_effect rule.MoreAssignments = Some (record { pops = (sort.Update, 0) ∷ []; pushes = (sort.Update, 0) ∷ []; trees = Exactly 0 0; conditions = Same })
use_effect rule.Where = Some (record { pops = []; pushes = (sort.Condition, 0) ∷ []; trees = Same; conditions = Exactly 0 0 })
use_effect rule.Query = Some (record { pops = []; pushes = (sort.Query, 0) ∷ []; trees = Exactly 0 0; conditions = Exactly 0 0 })
use_effect rule.List = Some (record { pops = []; pushes = (sort.Query, 0) ∷ []; trees = Exactly 0 0; conditions = Same })
use_effect rule.MoreOutputs = Some (record { pops = (sort.Outputs, 0) ∷ []; pushes = (sort.Outputs, 0) ∷ []; trees = Exactly 0 0; conditions = Same })
use_effect rule.Output = Some (record { pops = []; pushes = (sort.Output, 0) ∷ []; trees = Exactly 0 0; conditions = Same })
use_effect rule.OutputValue = Some (record { pops = []; pushes = (sort.Value, 0) ∷ []; trees = Exactly 0 0; conditions = Same })
use_effect rule.Counted = Some (record { pops = []; pushes = (sort.Value, 0) ∷ []; trees = Exactly 0 0; conditions = Same })
use_effect rule.OutputName = Some (alike ((sort.Value, 0) ∷ []) ((sort.Output, 0) ∷ []))
use_effect rule.Clauses = Some (record { pops = (sort.Query, 0) ∷ []; pushes = (sort.Query, 0) ∷ []; trees = Same; conditions = Exactly 0 0 })
use_effect rule.Second = Some (alike ((sort.Query, 0) ∷ []) ((sort.Query, 0) ∷ []))
use_effect rule.Grouping = Some (alike ((sort.Query, 0) ∷ []) ((sort.Query, 0) ∷ []))
use_effect rule.MoreGroups = Some (alike ((sort.Query, 0) ∷ []) ((sort.Query, 0) ∷ []))
use_effect rule.Ordering = Some (alike ((sort.Query, 0) ∷ []) ((sort.Query, 0) ∷ []))
use_effect rule.MoreKeys = Some (alike ((sort.Query, 0) ∷ []) ((sort.Query, 0) ∷ []))
use_effect rule.Key = Some (alike ((sort.Query, 0) ∷ []) ((sort.Query, 0) ∷ []))
use_effect rule.SortDirection = Some (alike ((sort.ColumnName, 0) ∷ (sort.Query, 0) ∷ []) ((sort.Query, 0) ∷ []))
use_effect rule.Limit = Some (alike ((sort.Query, 0) ∷ []) ((sort.Query, 0) ∷ []))
use_effect rule.Value = Some (record { pops = []; pushes = (sort.Expression, 0) ∷ []; trees = Exactly 0 0; conditions = Same })
use_effect rule.Expression = Some (record { pops = []; pushes = []; trees = Adds; conditions = Same })
use_effect rule.MoreTerms = Some (record { pops = []; pushes = []; trees = Needs; conditions = Same })
use_effect rule.Term = Some (record { pops = []; pushes = []; trees = Adds; conditions = Same })
use_effect rule.MoreFactors = Some (record { pops = []; pushes = []; trees = Needs; conditions = Same })
use_effect rule.Factor = Some (record { pops = []; pushes = []; trees = Adds; conditions = Same })
use_effect rule.Operand = Some (alike ([]) ((sort.Operand, 0) ∷ []))
use_effect rule.ColumnName = Some (alike ([]) ((sort.ColumnName, 0) ∷ []))
use_effect rule.Qualifier = Some (alike ((sort.Name, 0) ∷ []) ((sort.ColumnName, 0) ∷ []))
use_effect rule.Literal = Some (alike ([]) ((sort.Literal, 0) ∷ []))
use_effect rule.Condition = Some (record { pops = []; pushes = []; trees = Same; conditions = Adds })
use_effect rule.MoreConjunctions = Some (record { pops = []; pushes = []; trees = Same; conditions = Needs })
use_effect rule.Conjunction = Some (record { pops = []; pushes = []; trees = Same; conditions = Adds })
use_effect rule.MoreNegations = Some (record { pops = []; pushes = []; trees = Same; conditions = Needs })
use_effect rule.Negation = Some (record { pops = []; pushes = []; trees = Same; conditions = Adds })
use_effect rule.Compared = Some (record { pops = (sort.Operand, 0) ∷ []; pushes = []; trees = Same; conditions = Adds })
use_effect rule.SnapshotChoice = Some (alike ([]) ((sort.Line, 0) ∷ []))
use_effect rule.Argument = Some (alike ([]) ((sort.Argument, 0) ∷ []))
use_effect rule.LabelChoice = Some (alike ([]) ((sort.Line, 0) ∷ []))

abbrev pub class_cells : Class → List Cell
class_cells class.Name = (sort.Name, 0) ∷ []
class_cells class.Integer = (sort.Number, 0) ∷ []
class_cells class.ShortText = (sort.Text, 0) ∷ []
class_cells class.Text = (sort.Text, 0) ∷ []
class_cells class.LongText = (sort.Argument, 0) ∷ []
class_cells _ = []

abbrev pub goes_on : {X Y : Type 0} → Option X → (X → Option Y) → Option Y
goes_on None f = None
goes_on (Some x) f = f x

abbrev pub shown : List Cell → Shape → Shape
shown cs k = record { cells = cs ++ k.cells; trees = k.trees; conditions = k.conditions }

-- the shape after symbols
abbrev pub effect : List Symbol → Shape → Option Shape
effect [] k = Some k
effect (Take c ∷ ss) k = effect ss (shown (class_cells c) k)
effect (Put a ∷ ss) k = goes_on (goes_on (put_effect (columns k.cells) a) (λ e. worked e k)) (effect ss)
effect (Use r ∷ ss) k = goes_on (goes_on (use_effect r) (λ e. worked e k)) (effect ss)

-- each right side of a rule has the rule's effect
abbrev pub Balanced : Option Effect → List (List Symbol) → Shape → Type 0
Balanced None all m = Unit {0}
Balanced (Some e) all m = AllByRecursion (λ side. effect side (from e m) ≡ Some (to e m)) all

pub balanced : (r : Rule) (m : Shape) → Balanced (use_effect r) (sides r) m
balanced rule.Sentence m = tt
balanced rule.Selected m = tt
balanced (rule.MoreColumns Fifteen) m = (refl, (refl, tt))
balanced (rule.MoreColumns Fourteen) m = (refl, (refl, tt))
balanced (rule.MoreColumns Thirteen) m = (refl, (refl, tt))
balanced (rule.MoreColumns Twelve) m = (refl, (refl, tt))
balanced (rule.MoreColumns Eleven) m = (refl, (refl, tt))
balanced (rule.MoreColumns Ten) m = (refl, (refl, tt))
balanced (rule.MoreColumns Nine) m = (refl, (refl, tt))
balanced (rule.MoreColumns Eight) m = (refl, (refl, tt))
balanced (rule.MoreColumns Seven) m = (refl, (refl, tt))
balanced (rule.MoreColumns Six) m = (refl, (refl, tt))
balanced (rule.MoreColumns Five) m = (refl, (refl, tt))
balanced (rule.MoreColumns Four) m = (refl, (refl, tt))
balanced (rule.MoreColumns Three) m = (refl, (refl, tt))
balanced (rule.MoreColumns Two) m = (refl, (refl, tt))
balanced (rule.MoreColumns One) m = (refl, (refl, tt))
balanced rule.Created m = (refl, (refl, tt))
balanced rule.Column m = (refl, tt)
balanced rule.Kind m = (refl, (refl, tt))
balanced rule.Tuple m = (refl, tt)
balanced rule.MoreValues m = (refl, (refl, tt))
balanced rule.MoreTuples m = (refl, (refl, tt))
balanced rule.Assignment m = (refl, tt)
balanced rule.MoreAssignments m = (refl, (refl, tt))
balanced rule.Where m = (refl, (refl, tt))
balanced rule.Query m = (refl, (refl, tt))
balanced rule.List m = (refl, (refl, tt))
balanced rule.MoreOutputs m = (refl, (refl, tt))
balanced rule.Output m = (refl, tt)
balanced rule.OutputValue m = (refl, (refl, (refl, (refl, (refl, tt)))))
balanced rule.Counted m = (refl, (refl, tt))
balanced rule.OutputName m = (refl, (refl, tt))
balanced rule.Clauses m = (refl, tt)
balanced rule.Second m = (refl, (refl, tt))
balanced rule.Grouping m = (refl, (refl, tt))
balanced rule.MoreGroups m = (refl, (refl, tt))
balanced rule.Ordering m = (refl, (refl, tt))
balanced rule.MoreKeys m = (refl, (refl, tt))
balanced rule.Key m = (refl, tt)
balanced rule.SortDirection m = (refl, (refl, (refl, tt)))
balanced rule.Limit m = (refl, (refl, tt))
balanced rule.Value m = (refl, tt)
balanced rule.Expression m = (refl, tt)
balanced rule.MoreTerms m = (refl, (refl, (refl, tt)))
balanced rule.Term m = (refl, tt)
balanced rule.MoreFactors m = (refl, (refl, tt))
balanced rule.Factor m = (refl, (refl, tt))
balanced rule.Operand m = (refl, (refl, (refl, tt)))
balanced rule.ColumnName m = (refl, tt)
balanced rule.Qualifier m = (refl, (refl, tt))
balanced rule.Literal m = (refl, (refl, (refl, (refl, tt))))
balanced rule.Condition m = (refl, tt)
balanced rule.MoreConjunctions m = (refl, (refl, tt))
balanced rule.Conjunction m = (refl, tt)
balanced rule.MoreNegations m = (refl, (refl, tt))
balanced rule.Negation m = (refl, (refl, (refl, tt)))
balanced rule.Compared m = (refl, (refl, (refl, (refl, (refl, (refl, tt))))))
balanced rule.SnapshotChoice m = (refl, (refl, tt))
balanced rule.Argument m = (refl, (refl, (refl, tt)))
balanced rule.LabelChoice m = (refl, (refl, tt))

-- symbols one behind the other
on_assoc : (x : Option Shape) (f g : Shape → Option Shape) → goes_on (goes_on x f) g ≡ goes_on x (λ k. goes_on (f k) g)
on_assoc None f g = refl
on_assoc (Some k) f g = refl

on_same : (x : Option Shape) (f g : Shape → Option Shape) → ((k : Shape) → f k ≡ g k) → goes_on x f ≡ goes_on x g
on_same None f g h = refl
on_same (Some k) f g h = h k

pub effect-append : (a b : List Symbol) (k : Shape) → effect (a ++ b) k ≡ goes_on (effect a k) (effect b)
effect-append [] b k = refl
effect-append (Take c ∷ a) b k = effect-append a b (shown (class_cells c) k)
effect-append (Put o ∷ a) b k =
    let x = goes_on (put_effect (columns k.cells) o) (λ e. worked e k) in
    on_same x (effect (a ++ b)) (λ l. goes_on (effect a l) (effect b)) (effect-append a b) ∙ sym (on_assoc x (effect a) (effect b))
effect-append (Use r ∷ a) b k =
    let x = goes_on (use_effect r) (λ e. worked e k) in
    on_same x (effect (a ++ b)) (λ l. goes_on (effect a l) (effect b)) (effect-append a b) ∙ sym (on_assoc x (effect a) (effect b))
