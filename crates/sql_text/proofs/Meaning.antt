-- A sentence always says something.
use Rattle.std.proofs.Common.{◌≡◌, ◌≤◌, ◌∙◌, inl, inr, ℕ, ℤ, Bool, true, false, Option, Some, None, List, [], ◌∷◌, ◌++◌, length, nat_le, if◌then◌else◌, refl, sym, ap, subst, unsigned_abs, arith}
use Rattle.std.specs.List.{AllByRecursion}
use Rattle.std.proofs.lemmas.Bool.{leb-true}
use Rattle.sql_tree.specs.Statement.{IsSelect, IsStatement}
use Rattle.sql_tree.specs.declared.statement.Statement.{Statement}
use Rattle.sql_lexer.specs.declared.token.Keyword.{Keyword}
use Rattle.sql_lexer.specs.declared.token.Keyword.TheVariants as keyword
use Rattle.sql_lexer.specs.declared.token.Sign.TheVariants as sign
use Rattle.sql_lexer.specs.declared.token.Token.{Token}
use Rattle.sql_lexer.specs.declared.token.Token.TheVariants as token
use Rattle.sql_build.specs.declared.draft.Assembly.{Assembly}
use Rattle.sql_parts.specs.declared.action.Action.{Action}
use Rattle.sql_parts.specs.declared.action.Action.TheVariants as action
use Rattle.sql_grammar.specs.declared.grammar.Class.{Class}
use Rattle.sql_grammar.specs.declared.grammar.Class.TheVariants as class
use Rattle.sql_parts.specs.declared.action.LineAction.TheVariants as line_action
use Rattle.sql_parts.specs.declared.action.Op.{Op}
use Rattle.sql_parts.specs.declared.action.Op.TheVariants as op
use Rattle.sql_parts.specs.declared.action.QueryAction.TheVariants as query_action
use Rattle.sql_parts.specs.declared.action.RowAction.TheVariants as row_action
use Rattle.sql_parts.specs.declared.action.UpdateAction.TheVariants as update_action
use Rattle.sql_grammar.specs.declared.grammar.Rule.TheVariants as rule
use Rattle.sql_grammar.specs.declared.grammar.Symbol.{Symbol}
use Rattle.sql_grammar.specs.declared.grammar.Symbol.TheVariants.{Take, Put, Use}
use Rattle.sql_parts.specs.declared.parsed.AsOf.{AsOf}
use Rattle.sql_parts.specs.declared.parsed.Parsed.{Parsed}
use Rattle.sql_parts.specs.declared.parsed.Parsed.TheVariants as parsed
use Rattle.sql_parts.specs.declared.parsed.RqlCall.{RqlCall}
use Rattle.sql_parts.specs.declared.part.Part.{Part}
use Rattle.sql_parts.specs.declared.part.Part.TheVariants as part
use Rattle.sql_build.specs.Built.{acted, all_taken, built, empty, finished, goes_on, said, taken, with_parts}
use Rattle.sql_grammar.specs.Derivation.{Derives, Done, Taken, Emitted, Replaced, IsIn, IsSentence}
use Rattle.sql_grammar.specs.Grammar.{class_of, content_of, sides}
use Rattle.sql_text.specs.Line.{HasLimits}
use Rattle.sql_parts.proofs.Common.{some_injective}
use Rattle.sql_build.proofs.Drafting.{Has, Leaves, act_made}
use Rattle.sql_build.proofs.Fitting.{Fits, argument, as_of, call, name, none, number, plain, text}
use Rattle.sql_build.proofs.Sorts.{Cell, Effect, Shape, columns, from, put_effect, shape, to, worked, worked_is}
use Rattle.sql_build.proofs.Sorts as sort
use Rattle.sql_text.proofs.Balance as balance
use Rattle.sql_text.proofs.Balance.{Balanced, balanced, class_cells, effect, effect-append, shown, use_effect}
use Rattle.sql_grammar.proofs.Steps.{done, emitted, nothing_taken, replaced, taken as token_taken}

-- operations one behind the other
goes_assoc : (x : Option Assembly) (f g : Assembly → Option Assembly) → goes_on (goes_on x f) g ≡ goes_on x (λ d. goes_on (f d) g)
goes_assoc None f g = refl
goes_assoc (Some d) f g = refl

goes_same : (x : Option Assembly) (f g : Assembly → Option Assembly) → ((d : Assembly) → f d ≡ g d) → goes_on x f ≡ goes_on x g
goes_same None f g h = refl
goes_same (Some d) f g h = h d

pub all_taken-append : (xs ys : List Op) (d : Assembly) → all_taken (xs ++ ys) d ≡ goes_on (all_taken xs d) (all_taken ys)
all_taken-append [] ys d = refl
all_taken-append (x ∷ xs) ys d =
    goes_same (taken x d) (all_taken (xs ++ ys)) (λ e. goes_on (all_taken xs e) (all_taken ys)) (all_taken-append xs ys) ∙ sym (goes_assoc (taken x d) (all_taken xs) (all_taken ys))

-- a token's content
text_cells : (b : Bool) → (sort.Text, 0) ∷ [] ≡ class_cells (if b then class.ShortText else class.Text)
text_cells true = refl
text_cells false = refl

token_made : (t : Token) (d : Assembly) (k : Shape) → Has d k → Leaves (all_taken (content_of t) d) (shown (class_cells (class_of t)) k)
token_made (token.Keyword w) d k h = (d, refl, record { parts = h.parts; expressions = h.expressions; conditions = h.conditions })
token_made (token.Name n) d k h = (with_parts (part.Name n ∷ d.parts) d, refl, record { parts = name h.parts; expressions = h.expressions; conditions = h.conditions })
token_made token.LongWord d k h = (d, refl, record { parts = h.parts; expressions = h.expressions; conditions = h.conditions })
token_made (token.Integer i) d k h = (with_parts (part.Number i ∷ d.parts) d, refl, record { parts = number h.parts; expressions = h.expressions; conditions = h.conditions })
token_made token.BigInteger d k h = (d, refl, record { parts = h.parts; expressions = h.expressions; conditions = h.conditions })
token_made (token.Text t) d k h =
    let P : List Cell → Type 0 = λ cs. Leaves (all_taken (op.Text t ∷ []) d) (shown cs k) in
    subst P (text_cells (nat_le (length t) 64)) (with_parts (part.Text t ∷ d.parts) d, refl, record { parts = text h.parts; expressions = h.expressions; conditions = h.conditions })
token_made (token.LongText t) d k h = (with_parts (part.Argument t ∷ d.parts) d, refl, record { parts = argument h.parts; expressions = h.expressions; conditions = h.conditions })
token_made (token.Sign s) d k h = (d, refl, record { parts = h.parts; expressions = h.expressions; conditions = h.conditions })

on_split : {X Y : Type 0} (x : Option X) (f : X → Option Y) (y : Y) → balance.goes_on x f ≡ Some y → (z : X) × (x ≡ Some z) × (f z ≡ Some y)
on_split None f y e = cc
on_split (Some x) f y e = (x, refl, e)

leaves_on : (x : Option Assembly) (os : List Op) (k l : Shape) → Leaves x k → ((d : Assembly) → Has d k → Leaves (all_taken os d) l) → Leaves (goes_on x (all_taken os)) l
leaves_on x os k l h f =
    let r = f h.0 h.2 in
    (r.0, ap (λ y. goes_on y (all_taken os)) h.1 ∙ r.1, r.2)

among : (all : List (List Symbol)) (g : Effect) (m : Shape) (side : List Symbol) → AllByRecursion (λ s. effect s (from g m) ≡ Some (to g m)) all → IsIn side all → effect side (from g m) ≡ Some (to g m)
among [] g m side b i = absurd i
among (x ∷ xs) g m side b (inl e) = ap (λ y. effect y (from g m)) e ∙ b.0
among (x ∷ xs) g m side b (inr i) = among xs g m side b.1 i

side_balanced : (e : Option Effect) (f : Effect) (all : List (List Symbol)) (m : Shape) (side : List Symbol) → e ≡ Some f → Balanced e all m → IsIn side all → effect side (from f m) ≡ Some (to f m)
side_balanced None f all m side q b i = cc
side_balanced (Some g) f all m side q b i =
    let P : Effect → Type 0 = λ x. effect side (from x m) ≡ Some (to x m) in
    subst P (some_injective q) (among all g m side b i)

-- what a derivation puts out leaves a draft of the shape that the symbols say
leaves : {ss : List Symbol} {ts : List Token} {os : List Op} → Derives ss ts os → (d : Assembly) (k l : Shape) → effect ss k ≡ Some l → Has d k → Leaves (all_taken os d) l
leaves Done d v l e h = let P : Shape → Type 0 = λ x. Has d x in (d, refl, subst P (some_injective e) h)
leaves (Taken {k} {ss} {t} {ts} {os} q o r) d v l e h =
    let P : Class → Type 0 = λ x. Leaves (all_taken (content_of t) d) (shown (class_cells x) v) in
    let m = subst P q (token_made t d v h) in
    let R : List Op → Type 0 = λ x. Leaves (all_taken x d) l in
    let S : Option Assembly → Type 0 = λ x. Leaves x l in
    subst R (sym o) (subst S (sym (all_taken-append (content_of t) os d)) (leaves_on (all_taken (content_of t) d) os (shown (class_cells k) v) l m (λ d g. leaves r d (shown (class_cells k) v) l e g)))
leaves (Emitted {a} {ss} {ts} {os} r) d v l e h =
    let s = on_split (balance.goes_on (put_effect (columns v.cells) a) (λ x. worked x v)) (effect ss) l e in
    let x = on_split (put_effect (columns v.cells) a) (λ x. worked x v) s.0 s.1 in
    let w = worked_is x.0 v s.0 x.2 in
    let P : Shape → Type 0 = λ y. Has d y in
    let m = act_made (columns v.cells) a d w.0 x.0 x.1 (subst P w.1 h) in
    let Q : Shape → Type 0 = λ y. Leaves (acted a d) y in
    leaves_on (acted a d) os s.0 l (subst Q (sym w.2) m) (λ d g. leaves r d s.0 l s.2 g)
leaves (Replaced {r} side {ss} i q) d v l e h =
    let s = on_split (balance.goes_on (use_effect r) (λ x. worked x v)) (effect ss) l e in
    let x = on_split (use_effect r) (λ x. worked x v) s.0 s.1 in
    let w = worked_is x.0 v s.0 x.2 in
    let b = side_balanced (use_effect r) x.0 (sides r) w.0 side x.1 (balanced r w.0) i in
    let one : effect side v ≡ Some s.0 = ap (effect side) w.1 ∙ b ∙ ap Some (sym w.2) in
    leaves q d v l (effect-append side ss v ∙ ap (λ y. balance.goes_on y (effect ss)) one ∙ s.2) h

-- nothing yet
abbrev bare : Shape
bare = shape [] 0 0

bare_has : Has empty bare
bare_has = record { parts = none; expressions = ([], refl, refl); conditions = ([], refl, refl) }

built_by : (os : List Op) (d : Assembly) (ps : List Part) → all_taken os empty ≡ Some d → d.parts ≡ ps → built os ≡ said ps
built_by os d ps e p = ap finished e ∙ ap said p

plain_alone : (ps : List Part) → Fits ps ((sort.Plain, 0) ∷ []) → (s : Statement) × (ps ≡ part.Parsed (parsed.Plain s) ∷ []) × IsStatement s
plain_alone ps (plain {x} i none) = (x, refl, i)

as_of_alone : (ps : List Part) → Fits ps ((sort.AsOf, 0) ∷ []) → (q : AsOf) × (ps ≡ part.Parsed (parsed.AsOf q) ∷ []) × IsSelect q.query
as_of_alone ps (as_of {x} i none) = (x, refl, i)

plain_said : (ss : List Symbol) (ts : List Token) (os : List Op) → Derives ss ts os → effect ss bare ≡ Some (shape ((sort.Plain, 0) ∷ []) 0 0) → (s : Statement) × (built os ≡ Some (parsed.Plain s)) × IsStatement s
plain_said ss ts os r e =
    let l = leaves r empty bare (shape ((sort.Plain, 0) ∷ []) 0 0) e bare_has in
    let a = plain_alone l.0.parts l.2.parts in
    (a.0, built_by os l.0 (part.Parsed (parsed.Plain a.0) ∷ []) l.1 a.1, a.2)

call_alone : (ps : List Part) → Fits ps ((sort.Call, 0) ∷ []) → (c : RqlCall) × (ps ≡ part.Parsed (parsed.Rql c) ∷ [])
call_alone ps (call {x} none) = (x, refl)

call_said : (ss : List Symbol) (ts : List Token) (os : List Op) → Derives ss ts os → effect ss bare ≡ Some (shape ((sort.Call, 0) ∷ []) 0 0) → (c : RqlCall) × (built os ≡ Some (parsed.Rql c))
call_said ss ts os r e =
    let l = leaves r empty bare (shape ((sort.Call, 0) ∷ []) 0 0) e bare_has in
    let a = call_alone l.0.parts l.2.parts in
    (a.0, built_by os l.0 (part.Parsed (parsed.Rql a.0) ∷ []) l.1 a.1)

as_of_said : (ss : List Symbol) (ts : List Token) (os : List Op) → Derives ss ts os → effect ss bare ≡ Some (shape ((sort.AsOf, 0) ∷ []) 0 0) → (q : AsOf) × (built os ≡ Some (parsed.AsOf q)) × IsSelect q.query
as_of_said ss ts os r e =
    let l = leaves r empty bare (shape ((sort.AsOf, 0) ∷ []) 0 0) e bare_has in
    let a = as_of_alone l.0.parts l.2.parts in
    (a.0, built_by os l.0 (part.Parsed (parsed.AsOf a.0) ∷ []) l.1 a.1, a.2)

-- the first token of a sentence
abbrev Follows : Class → List Symbol → List Token → List Op → Type 0
Follows k ss ts os = (t : Token) × (rest : List Token) × (more : List Op) × (class_of t ≡ k) × (os ≡ content_of t ++ more) × Derives ss rest more

first_taken : (k : Class) (ss : List Symbol) (ts : List Token) (os : List Op) → Derives (Take k ∷ ss) ts os → Follows k ss ts os
first_taken k ss [] os d = absurd (nothing_taken d)
first_taken k ss (t ∷ ts) os d = let q = token_taken d in (t, ts, q.1.0, q.0, q.1.1, q.1.2)

no_word : (b : Bool) (k : Keyword) → (if b then class.ShortText else class.Text) ≡ class.Keyword k → ⊥
no_word true k e = cc
no_word false k e = cc

no_content : (t : Token) (k : Keyword) → class_of t ≡ class.Keyword k → content_of t ≡ []
no_content (token.Keyword j) k e = refl
no_content (token.Name n) k e = cc
no_content token.LongWord k e = refl
no_content (token.Integer i) k e = cc
no_content token.BigInteger k e = refl
no_content (token.Text t) k e = absurd (no_word (nat_le (length t) 64) k e)
no_content (token.LongText t) k e = cc
no_content (token.Sign s) k e = refl

-- what follows a keyword puts out all
behind_word : {k : Keyword} {ss : List Symbol} {ts : List Token} {os : List Op} → Derives (Take (class.Keyword k) ∷ ss) ts os → (rest : List Token) × Derives ss rest os
behind_word {k} {ss} {ts} {os} d =
    let f = first_taken (class.Keyword k) ss ts os d in
    let P : List Op → Type 0 = λ x. Derives ss f.1 x in
    (f.1, subst P (sym (f.4 ∙ ap (λ x. x ++ f.2) (no_content f.0 k f.3))) f.5)

abbrev pub Meant : List Op → Type 0
Meant os = (p : Parsed) × (built os ≡ Some p) × HasLimits p

plain_meant : (ss : List Symbol) (ts : List Token) (os : List Op) → effect ss bare ≡ Some (shape ((sort.Plain, 0) ∷ []) 0 0) → Derives ss ts os → Meant os
plain_meant ss ts os e d = let b = plain_said ss ts os d e in (parsed.Plain b.0, b.1, b.2)

call_meant : (ss : List Symbol) (ts : List Token) (os : List Op) → effect ss bare ≡ Some (shape ((sort.Call, 0) ∷ []) 0 0) → Derives ss ts os → Meant os
call_meant ss ts os e d = let b = call_said ss ts os d e in (parsed.Rql b.0, b.1, tt)

-- SELECT
selected : (ts : List Token) (os : List Op) (side : List Symbol) → IsIn side (sides rule.Selected) → Derives (side ++ []) ts os → Meant os
selected ts os side (inl q) d =
    let P : List Symbol → Type 0 = λ x. Derives (x ++ []) ts os in
    let b = as_of_said (Take (class.Keyword keyword.As) ∷ Take (class.Keyword keyword.Of) ∷ Take class.Integer ∷ Use rule.Query ∷ Put (action.Query query_action.AsOf) ∷ []) ts os (subst P q d) refl in
    (parsed.AsOf b.0, b.1, b.2)
selected ts os side (inr (inl q)) d =
    let P : List Symbol → Type 0 = λ x. Derives (x ++ []) ts os in
    plain_meant (Use rule.Query ∷ Put (action.Query query_action.Finish) ∷ []) ts os refl (subst P q d)
selected ts os side (inr (inr i)) d = absurd i

select_case : (ts : List Token) (os : List Op) → Derives (Take (class.Keyword keyword.Select) ∷ Use rule.Selected ∷ []) ts os → Meant os
select_case ts os d =
    let w = behind_word d in
    let r = replaced w.1 in
    selected w.0 os r.0 r.1 r.2

-- a single action at the end of a line
last_act : (a : Action) (ts : List Token) (os : List Op) → Derives (Put a ∷ []) ts os → os ≡ op.Act a ∷ []
last_act a ts os d =
    let e = emitted d in
    e.1 ∙ ap (λ x. op.Act a ∷ x) (done e.2).1

-- COMMIT
short_if : (l : List ℕ) (b : Bool) → nat_le (length l) 64 ≡ b → (if b then class.ShortText else class.Text) ≡ class.ShortText → length l ≤ 64
short_if l true h e = leb-true (length l) 64 h
short_if l false h e = cc

no_integer : (b : Bool) → (if b then class.ShortText else class.Text) ≡ class.Integer → ⊥
no_integer true e = cc
no_integer false e = cc

short_text : (t : Token) → class_of t ≡ class.ShortText → (l : List ℕ) × (t ≡ token.Text l) × (length l ≤ 64)
short_text (token.Keyword k) e = cc
short_text (token.Name n) e = cc
short_text token.LongWord e = cc
short_text (token.Integer i) e = cc
short_text token.BigInteger e = cc
short_text (token.Text l) e = (l, refl, short_if l (nat_le (length l) 64) refl e)
short_text (token.LongText l) e = cc
short_text (token.Sign s) e = cc

integer_is : (t : Token) → class_of t ≡ class.Integer → (i : ℤ) × (t ≡ token.Integer i)
integer_is (token.Keyword k) e = cc
integer_is (token.Name n) e = cc
integer_is token.LongWord e = cc
integer_is (token.Integer i) e = (i, refl)
integer_is token.BigInteger e = cc
integer_is (token.Text l) e = absurd (no_integer (nat_le (length l) 64) e)
integer_is (token.LongText l) e = cc
integer_is (token.Sign s) e = cc

labelled : (ts : List Token) (os : List Op) → Derives (Take class.ShortText ∷ Put (action.Line line_action.CommitLabelled) ∷ []) ts os → Meant os
labelled ts os d =
    let f = first_taken class.ShortText (Put (action.Line line_action.CommitLabelled) ∷ []) ts os d in
    let s = short_text f.0 f.3 in
    let a = last_act (action.Line line_action.CommitLabelled) f.1 f.2 f.5 in
    (parsed.Commit (Some s.0), ap built (f.4 ∙ ap (λ x. content_of x ++ f.2) s.1 ∙ ap (λ x. op.Text s.0 ∷ x) a), s.2)

label_case : (ts : List Token) (os : List Op) (side : List Symbol) → IsIn side (sides rule.LabelChoice) → Derives (side ++ []) ts os → Meant os
label_case ts os side (inl q) d = let P : List Symbol → Type 0 = λ x. Derives (x ++ []) ts os in labelled ts os (subst P q d)
label_case ts os side (inr (inl q)) d =
    let P : List Symbol → Type 0 = λ x. Derives (x ++ []) ts os in
    (parsed.Commit (Some []), ap built (last_act (action.Line line_action.CommitUnlabelled) ts os (subst P q d)), omega arith)
label_case ts os side (inr (inr i)) d = absurd i

snapshot_case : (ts : List Token) (os : List Op) (side : List Symbol) → IsIn side (sides rule.SnapshotChoice) → Derives (side ++ []) ts os → Meant os
snapshot_case ts os side (inl q) d =
    let P : List Symbol → Type 0 = λ x. Derives (x ++ []) ts os in
    let w = behind_word (behind_word (subst P q d)).1 in
    let r = replaced w.1 in
    label_case w.0 os r.0 r.1 r.2
snapshot_case ts os side (inr (inl q)) d =
    let P : List Symbol → Type 0 = λ x. Derives (x ++ []) ts os in
    (parsed.Commit None, ap built (last_act (action.Line line_action.Commit) ts os (subst P q d)), tt)
snapshot_case ts os side (inr (inr i)) d = absurd i

commit_case : (ts : List Token) (os : List Op) → Derives (Take (class.Keyword keyword.Commit) ∷ Use rule.SnapshotChoice ∷ []) ts os → Meant os
commit_case ts os d =
    let w = behind_word d in
    let r = replaced w.1 in
    snapshot_case w.0 os r.0 r.1 r.2

-- ROLLBACK and DROP SNAPSHOTS
rollback_case : (ts : List Token) (os : List Op) → Derives (Take (class.Keyword keyword.Rollback) ∷ Put (action.Line line_action.Rollback) ∷ []) ts os → Meant os
rollback_case ts os d =
    let w = behind_word d in
    (parsed.Rollback, ap built (last_act (action.Line line_action.Rollback) w.0 os w.1), tt)

drop_case : (ts : List Token) (os : List Op) → Derives (Take (class.Keyword keyword.Drop) ∷ Take (class.Keyword keyword.Snapshots) ∷ Take (class.Keyword keyword.Below) ∷ Take class.Integer ∷ Put (action.Line line_action.DropBelow) ∷ []) ts os → Meant os
drop_case ts os d =
    let w = behind_word (behind_word (behind_word d).1).1 in
    let f = first_taken class.Integer (Put (action.Line line_action.DropBelow) ∷ []) w.0 os w.1 in
    let i = integer_is f.0 f.3 in
    let a = last_act (action.Line line_action.DropBelow) f.1 f.2 f.5 in
    (parsed.DropBelow (unsigned_abs i.0), ap built (f.4 ∙ ap (λ x. content_of x ++ f.2) i.1 ∙ ap (λ x. op.Integer i.0 ∷ x) a), tt)

abbrev opening : Symbol
opening = Take (class.Sign sign.Open)

abbrev comma : Symbol
comma = Take (class.Sign sign.Comma)

abbrev closing : Symbol
closing = Take (class.Sign sign.Close)

sentence_case : (ts : List Token) (os : List Op) (side : List Symbol) → IsIn side (sides rule.Sentence) → Derives (side ++ []) ts os → Meant os
sentence_case ts os side (inl q) d =
    let P : List Symbol → Type 0 = λ x. Derives (x ++ []) ts os in
    plain_meant (Take (class.Keyword keyword.Create) ∷ Use rule.Created ∷ []) ts os refl (subst P q d)
sentence_case ts os side (inr (inl q)) d =
    let P : List Symbol → Type 0 = λ x. Derives (x ++ []) ts os in
    plain_meant (Take (class.Keyword keyword.Insert) ∷ Take (class.Keyword keyword.Into) ∷ Take class.Name ∷ Take (class.Keyword keyword.Values) ∷ Use rule.Tuple ∷ Put (action.Row row_action.Insert) ∷ Use rule.MoreTuples ∷ Put (action.Row row_action.Finish) ∷ []) ts os refl (subst P q d)
sentence_case ts os side (inr (inr (inl q))) d =
    let P : List Symbol → Type 0 = λ x. Derives (x ++ []) ts os in
    plain_meant (Take (class.Keyword keyword.Update) ∷ Take class.Name ∷ Take (class.Keyword keyword.Set) ∷ Use rule.Assignment ∷ Put (action.Update update_action.Update) ∷ Use rule.MoreAssignments ∷ Use rule.Where ∷ Put (action.Update update_action.Finish) ∷ []) ts os refl (subst P q d)
sentence_case ts os side (inr (inr (inr (inl q)))) d =
    let P : List Symbol → Type 0 = λ x. Derives (x ++ []) ts os in
    plain_meant (Take (class.Keyword keyword.Delete) ∷ Take (class.Keyword keyword.From) ∷ Take class.Name ∷ Use rule.Where ∷ Put (action.Update update_action.Delete) ∷ []) ts os refl (subst P q d)
sentence_case ts os side (inr (inr (inr (inr (inl q))))) d =
    let P : List Symbol → Type 0 = λ x. Derives (x ++ []) ts os in
    select_case ts os (subst P q d)
sentence_case ts os side (inr (inr (inr (inr (inr (inl q)))))) d =
    let P : List Symbol → Type 0 = λ x. Derives (x ++ []) ts os in
    commit_case ts os (subst P q d)
sentence_case ts os side (inr (inr (inr (inr (inr (inr (inl q))))))) d =
    let P : List Symbol → Type 0 = λ x. Derives (x ++ []) ts os in
    rollback_case ts os (subst P q d)
sentence_case ts os side (inr (inr (inr (inr (inr (inr (inr (inl q)))))))) d =
    let P : List Symbol → Type 0 = λ x. Derives (x ++ []) ts os in
    call_meant (Take (class.Keyword keyword.CollateData) ∷ opening ∷ Use rule.Argument ∷ comma ∷ Use rule.Argument ∷ comma ∷ Use rule.Argument ∷ closing ∷ Put (action.Line line_action.CollateData) ∷ []) ts os refl (subst P q d)
sentence_case ts os side (inr (inr (inr (inr (inr (inr (inr (inr (inl q))))))))) d =
    let P : List Symbol → Type 0 = λ x. Derives (x ++ []) ts os in
    call_meant (Take (class.Keyword keyword.AggregateDataInVariable) ∷ opening ∷ Use rule.Argument ∷ comma ∷ Use rule.Argument ∷ comma ∷ Use rule.Argument ∷ comma ∷ Use rule.Argument ∷ closing ∷ Put (action.Line line_action.AggregateDataInVariable) ∷ []) ts os refl (subst P q d)
sentence_case ts os side (inr (inr (inr (inr (inr (inr (inr (inr (inr (inl q)))))))))) d =
    let P : List Symbol → Type 0 = λ x. Derives (x ++ []) ts os in
    call_meant (Take (class.Keyword keyword.AggregateDataInTable) ∷ opening ∷ Use rule.Argument ∷ comma ∷ Use rule.Argument ∷ comma ∷ Use rule.Argument ∷ comma ∷ Use rule.Argument ∷ closing ∷ Put (action.Line line_action.AggregateDataInTable) ∷ []) ts os refl (subst P q d)
sentence_case ts os side (inr (inr (inr (inr (inr (inr (inr (inr (inr (inr (inl q))))))))))) d =
    let P : List Symbol → Type 0 = λ x. Derives (x ++ []) ts os in
    call_meant (Take (class.Keyword keyword.CollateDataIntoIntervals) ∷ opening ∷ Use rule.Argument ∷ comma ∷ Use rule.Argument ∷ comma ∷ Use rule.Argument ∷ closing ∷ Put (action.Line line_action.CollateDataIntoIntervals) ∷ []) ts os refl (subst P q d)
sentence_case ts os side (inr (inr (inr (inr (inr (inr (inr (inr (inr (inr (inr (inl q)))))))))))) d =
    let P : List Symbol → Type 0 = λ x. Derives (x ++ []) ts os in
    drop_case ts os (subst P q d)
sentence_case ts os side (inr (inr (inr (inr (inr (inr (inr (inr (inr (inr (inr (inr i)))))))))))) d = absurd i

-- a sentence says something, within the limits
pub says : (ts : List Token) (os : List Op) → IsSentence rule.Sentence ts os → Meant os
says ts os d = let r = replaced d in sentence_case ts os r.0 r.1 r.2
