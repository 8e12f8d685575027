-- What a text says as a query.
use Rattle.std.proofs.Common.{◌≡◌, ◌∙◌, ◌≤◌, ◌<◌, ◌==◌, ◌&&◌, ℕ, suc, Bool, true, false, Option, Some, None, List, [], ◌∷◌, length, is_none, refl, sym, ap, subst, arith}
use Rattle.std.proofs.lemmas.Bool.Decides.{nat_tests}
use Rattle.retro_base.specs.declared.limits.TheConstants.{LINE_BYTES}
use Rattle.sql_lexer.specs.Lexes.{HasOneReading, Lexes}
use Rattle.sql_lexer.specs.declared.token.Ending.{Ending}
use Rattle.sql_lexer.specs.declared.token.Ending.TheVariants as ending
use Rattle.sql_lexer.specs.declared.token.Lexed.{Lexed}
use Rattle.sql_lexer.specs.declared.token.Placed.{Placed}
use Rattle.sql_parts.specs.declared.parsed.Parsed.{Parsed}
use Rattle.sql_parts.specs.declared.parsed.Parsed.TheVariants as parsed
use Rattle.sql_text.specs.Line.{BrokenLinesSayNothing, Spells, SyntaxAt}
use Rattle.sql_text.specs.Places.{tokens_of}
use Rattle.sql_tree.specs.declared.select.Select.{Select}
use Rattle.sql_tree.specs.declared.statement.Statement.TheVariants as statement
use Rattle.rql_arguments.specs.Forms.{IsQuery, IsSnapshotQuery, lists_snapshots}
use Rattle.rql_arguments.specs.Reading.{Finds, IsOnly, SaysNone, is_whole, lists_only, select_of}

pub query_found : (text : List ℕ) (p : Parsed) → length text ≤ LINE_BYTES → Spells text p → ((q : Parsed) → Spells text q → q ≡ p) → Finds (IsQuery text) (select_of p)
query_found text (parsed.Plain (statement.Select query)) short s only = ((short, s), λ other h. let e = only (parsed.Plain (statement.Select other)) h.1 in cc)
query_found text p short s only = λ other h. let e = only (parsed.Plain (statement.Select other)) h.1 in cc

pub too_long : (text : List ℕ) → LINE_BYTES < length text → SaysNone (IsQuery text)
too_long text long other h = omega (arith, long, h.0)

pub broken : BrokenLinesSayNothing → (text : List ℕ) (place : ℕ) → SyntaxAt text place → SaysNone (IsQuery text)
broken apart text place at other h = apart text place (parsed.Plain (statement.Select other)) at h.1

pub no_query : (text : List ℕ) → SaysNone (IsQuery text) → SaysNone (IsSnapshotQuery text)
no_query text none other h = none other h.says

whole_is : (end : Ending) → is_whole end ≡ true → end ≡ ending.Whole
whole_is ending.Whole e = refl
whole_is end e = cc

none_is : (o : Option (List ℕ)) → is_none o ≡ true → o ≡ None
none_is None e = refl
none_is (Some x) e = cc

some_length : (n : ℕ) → (suc n == 0) ≡ true → ⊥
some_length n e = grind (arith, nat_tests, e)

empty_is : {X : Type 0} (xs : List X) → (length xs == 0) ≡ true → xs ≡ []
empty_is [] e = refl
empty_is (x ∷ xs) e = absurd (some_length (length xs) e)

four : (a b c d : Bool) → (a && b && c && d) ≡ true → (a ≡ true) × (b ≡ true) × (c ≡ true) × (d ≡ true)
four true true true true e = (refl, refl, refl, refl)
four true true true false e = cc
four true true false d e = cc
four true false c d e = cc
four false b c d e = cc

pub lists : (text : List ℕ) (lexed : Lexed) (query : Select) → Lexes 0 text lexed.tokens lexed.ending → IsOnly (IsQuery text) query → lists_only lexed query ≡ true → IsOnly (IsSnapshotQuery text) query
lists text lexed query l q e =
    let f = four (is_whole lexed.ending) (lists_snapshots (tokens_of lexed.tokens)) (is_none query.second) (length query.group_by == 0) e in (
      record {
        says = q.0;
        begins = (lexed.tokens, subst (Lexes 0 text lexed.tokens) (whole_is lexed.ending f.0) l, f.1);
        alone = none_is query.second f.2;
        ungrouped = empty_is query.group_by f.3;
      },
      λ other h. q.1 other h.says,
    )

all_true : (a b c d : Bool) → a ≡ true → b ≡ true → c ≡ true → d ≡ true → (a && b && c && d) ≡ true
all_true a b c d e f g h = rw (e, f, g, h) refl

lists_of : HasOneReading → (text : List ℕ) (lexed : Lexed) (query : Select) → Lexes 0 text lexed.tokens lexed.ending → IsSnapshotQuery text query → lists_only lexed query ≡ true
lists_of one text lexed query l h =
    let same = one text h.begins.0 lexed.tokens ending.Whole lexed.ending h.begins.1 l in
    all_true (is_whole lexed.ending) (lists_snapshots (tokens_of lexed.tokens)) (is_none query.second) (length query.group_by == 0) (ap is_whole (sym same.1))
    (ap (λ ts. lists_snapshots (tokens_of ts)) (sym same.0) ∙ h.begins.2) (ap is_none h.alone) (ap (λ xs. length xs == 0) h.ungrouped)

pub lists_no : HasOneReading → (text : List ℕ) (lexed : Lexed) (query : Select) → Lexes 0 text lexed.tokens lexed.ending → IsOnly (IsQuery text) query → lists_only lexed query ≡ false → SaysNone (IsSnapshotQuery text)
lists_no one text lexed query l q e other h =
    let same : other ≡ query = q.1 other h.says in
    let t : true ≡ false = sym (lists_of one text lexed other l h) ∙ ap (lists_only lexed) same ∙ e in
    cc
