-- Turns go on: reflexive and transitive.
use Rattle.std.proofs.Common.{◌++◌, ℕ, List, [], ◌∷◌, refl, ap, sym, subst, ◌∙◌, append_assoc, append-nil}
use Rattle.std.specs.List.{AllByRecursion}
use Rattle.history.specs.declared.journal.Line.{Line}
use Rattle.plain_store.specs.Plain.{Plain}
use Rattle.plain_store.specs.Turns.{GoesOn, OwnTurn}

abbrev AreOwn : ℕ → List Line → Type 0
AreOwn session lines = AllByRecursion (OwnTurn session) lines

own_append : (session : ℕ) (xs ys : List Line) → AreOwn session xs → AreOwn session ys → AreOwn session (xs ++ ys)
own_append session [] ys one two = two
own_append session (x ∷ xs) ys one two = (one.0, own_append session xs ys one.1 two)

pub stays : (store : Plain) → GoesOn store store
stays store = record { session = refl; opened = refl; more = []; own = tt; whole = sym (append-nil store.book.lines) }

pub goes_on : (p q r : Plain) → GoesOn p q → GoesOn q r → GoesOn p r
goes_on p q r one two = record {
  session = two.session ∙ one.session;
  opened = two.opened ∙ one.opened;
  more = one.more ++ two.more;
  own = own_append p.session one.more two.more one.own (subst (λ (n : ℕ). AreOwn n two.more) one.session two.own);
  whole = two.whole ∙ ap (λ (ls : List Line). ls ++ two.more) one.whole ∙ append_assoc p.book.lines one.more two.more;
}
