-- Symbols, the tokens that follow from them, and what is built.
use Rattle.std.proofs.Common.{◌≡◌, ◌∙◌, ◌++◌, ℕ, Option, Some, List, [], ◌∷◌, refl, ap, subst, sym, append-nil, append_assoc}
use Rattle.std.specs.List.{AllByRecursion}
use Rattle.sql_lexer.specs.declared.token.Token.{Token}
use Rattle.sql_lexer.specs.declared.token.Sign.TheVariants as sign
use Rattle.sql_parts.specs.declared.action.Action.{Action}
use Rattle.sql_grammar.specs.declared.grammar.Class.{Class}
use Rattle.sql_parts.specs.declared.action.Op.{Op}
use Rattle.sql_parts.specs.declared.action.Op.TheVariants as op
use Rattle.sql_grammar.specs.declared.grammar.Rule.{Rule}
use Rattle.sql_grammar.specs.declared.grammar.Symbol.{Symbol}
use Rattle.sql_grammar.specs.declared.grammar.Symbol.TheVariants.{Take, Put, Use}
use Rattle.sql_grammar.specs.Derivation.{Derives, Done, Taken, Emitted, Replaced}
use Rattle.sql_grammar.specs.Grammar.{class_of, content_of, sides}
use Rattle.sql_grammar.specs.Table.{pick}
use Rattle.sql_grammar.proofs.Tables.{side-IsIn}
use Rattle.sql_parts.specs.declared.parsed.Parsed.{Parsed}
use Rattle.sql_parts.specs.declared.part.Part.{Part}
use Rattle.sql_parts.specs.declared.part.Part.TheVariants as part
use Rattle.sql_build.specs.declared.draft.Assembly.{Assembly}
use Rattle.sql_build.specs.Built.{acted, all_taken, finished, goes_on, with_parts}
use Rattle.sql_text.proofs.Meaning.{all_taken-append}
use Rattle.print_laws.specs.Printed.{Writer, further, mark}

-- from the symbols the tokens follow, and what comes out builds the line on what is built so far
pub record Leads (ss : List Symbol) (ts : List Token) (so_far : Option Assembly) (p : Parsed) : Type 0 where
  pub ops : List Op
  pub derives : Derives ss ts ops
  pub builds : finished (goes_on so_far (all_taken ops)) ≡ Some p

pub takes : {k : Class} {ss : List Symbol} {t : Token} {ts : List Token} {d : Assembly} {p : Parsed} → class_of t ≡ k → Leads ss ts (all_taken (content_of t) d) p → Leads (Take k ∷ ss) (t ∷ ts) (Some d) p
takes {t = t} {d = d} e l = record {
  ops = content_of t ++ l.ops;
  derives = Taken e refl l.derives;
  builds = ap finished (all_taken-append (content_of t) l.ops d) ∙ l.builds;
}

pub puts : {a : Action} {ss : List Symbol} {ts : List Token} {d : Assembly} {p : Parsed} → Leads ss ts (acted a d) p → Leads (Put a ∷ ss) ts (Some d) p
puts {a = a} l = record { ops = op.Act a ∷ l.ops; derives = Emitted l.derives; builds = l.builds }

-- a rule by one of its right sides
pub by_side : {r : Rule} {ss : List Symbol} {ts : List Token} {d : Assembly} {p : Parsed} (n : ℕ) → Leads (pick n (sides r) ++ ss) ts (Some d) p → Leads (Use r ∷ ss) ts (Some d) p
by_side {r = r} n l = record { ops = l.ops; derives = Replaced (pick n (sides r)) (side-IsIn n r) l.derives; builds = l.builds }

-- the last part
abbrev pub push : Part → Assembly → Assembly
push x d = with_parts (x ∷ d.parts) d

-- parts alone
abbrev pub clean : List Part → Assembly
clean ps = record { parts = ps; expression = []; condition = [] }

-- the whole line is built
pub ends : (p : Parsed) → Leads [] [] (Some (clean (part.Parsed p ∷ []))) p
ends p = record { ops = []; derives = Done; builds = refl }

-- a list of things behind commas, where each is one that is read
pub goes_further_with : {X : Type 0} (Q : X → Type 0) (r : Rule) (write : Writer X) (state : List X → Assembly) (p : Parsed) (ss : List Symbol)
    → ((xs : List X) (ts : List Token) → Leads ss ts (Some (state xs)) p → Leads (Use r ∷ ss) ts (Some (state xs)) p)
    → ((x : X) (xs : List X) (ts : List Token) → Q x → Leads (Use r ∷ ss) ts (Some (state (xs ++ x ∷ []))) p → Leads (Use r ∷ ss) (mark sign.Comma (write x ts)) (Some (state xs)) p)
    → (xs before : List X) (ts : List Token) → AllByRecursion Q xs → Leads ss ts (Some (state (before ++ xs))) p → Leads (Use r ∷ ss) (further write xs ts) (Some (state before)) p
goes_further_with Q r write state p ss off on [] before ts all l =
    let P : List _ → Type 0 = λ xs. Leads ss ts (Some (state xs)) p in
    off before ts (subst P (append-nil before) l)
goes_further_with Q r write state p ss off on (x ∷ xs) before ts all l =
    let P : List _ → Type 0 = λ ys. Leads ss ts (Some (state ys)) p in
    on x before (further write xs ts) all.0 (goes_further_with Q r write state p ss off on xs (before ++ x ∷ []) ts all.1 (subst P (sym (append_assoc before (x ∷ []) xs)) l))

each : {X : Type 0} (xs : List X) → AllByRecursion (λ (x : X). Unit {0}) xs
each [] = tt
each (x ∷ xs) = (tt, each xs)

-- a list of things behind commas
pub goes_further : {X : Type 0} (r : Rule) (write : Writer X) (state : List X → Assembly) (p : Parsed) (ss : List Symbol)
    → ((xs : List X) (ts : List Token) → Leads ss ts (Some (state xs)) p → Leads (Use r ∷ ss) ts (Some (state xs)) p)
    → ((x : X) (xs : List X) (ts : List Token) → Leads (Use r ∷ ss) ts (Some (state (xs ++ x ∷ []))) p → Leads (Use r ∷ ss) (mark sign.Comma (write x ts)) (Some (state xs)) p)
    → (xs before : List X) (ts : List Token) → Leads ss ts (Some (state (before ++ xs))) p → Leads (Use r ∷ ss) (further write xs ts) (Some (state before)) p
goes_further {X} r write state p ss off on xs before ts l =
    goes_further_with (λ (x : X). Unit {0}) r write state p ss off (λ x xs ts q l. on x xs ts l) xs before ts (each xs) l
