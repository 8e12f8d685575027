-- Turns.
use Rattle.std.proofs.Common.{◌≢◌, ◌∙◌, ◌++◌, ℕ, List, [], ◌∷◌, sym, ap, append_assoc, append-nil}
use Rattle.std.specs.List.{AllByRecursion}
use Rattle.history.specs.declared.journal.Line.{Line}
use Rattle.journal_law.specs.Facts.{AreOthers}
use Rattle.plain_store.specs.Turns.{OwnTurn, TurnsJoin}

others_append : (session : ℕ) (xs ys : List Line) → AreOthers session xs → AreOthers session ys → AreOthers session (xs ++ ys)
others_append session [] ys one two = two
others_append session (x ∷ xs) ys one two = (one.0, others_append session xs ys one.1 two)

are_others : (session other : ℕ) (lines : List Line) → session ≢ other → AllByRecursion (OwnTurn other) lines → AreOthers session lines
are_others session other [] apart all = tt
are_others session other (line ∷ lines) apart all = (λ mine. apart (sym mine ∙ all.0.0), are_others session other lines apart all.1)

pub turns_join : TurnsJoin
turns_join = record {
  here = λ store. record { rest = []; whole = sym (append-nil store.book.lines); others = tt };
  on = λ session front old new apart goes seen. record {
    rest = seen.rest ++ goes.more;
    whole = goes.whole ∙ ap (λ (ls : List Line). ls ++ goes.more) seen.whole ∙ append_assoc front seen.rest goes.more;
    others = others_append session seen.rest goes.more seen.others (are_others session old.session goes.more apart goes.own);
  };
  moves = λ view store session ground seen. record {
    session = sym session;
    opened = ground;
    others = seen.rest;
    apart = seen.others;
    front = seen.whole ∙ sym (append-nil (view.front ++ seen.rest));
  };
}
