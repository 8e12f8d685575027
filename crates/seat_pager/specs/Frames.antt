-- That attempts and looks go on: reflexive and transitive.
use Rattle.std.proofs.Common.{◌++◌, ℕ, List, [], ◌∷◌, refl, ap, sym, subst, ◌∙◌, append_assoc, append-nil}
use Rattle.history.specs.declared.journal.Line.{Line}
use Rattle.journal_law.specs.Facts.{AreOthers}
use Rattle.journal_law.specs.Seats.{Moves, View}
use Rattle.seat_pager.specs.Past.{LooksOn, PastPaging}
use Rattle.seat_pager.specs.Transaction.{GoesOn, Paging}

still : (view : View) → Moves view view []
still view = record {
  session = refl;
  opened = refl;
  others = [];
  apart = tt;
  front = sym (append-nil (view.front ++ []) ∙ append-nil view.front);
}

others_append : (session : ℕ) (xs ys : List Line) → AreOthers session xs → AreOthers session ys
    → AreOthers session (xs ++ ys)
others_append session [] ys one two = two
others_append session (x ∷ xs) ys one two = (one.0, others_append session xs ys one.1 two)

moves_on : (a b c : View) → Moves a b [] → Moves b c [] → Moves a c []
moves_on a b c one two = record {
  session = two.session ∙ one.session;
  opened = two.opened ∙ one.opened;
  others = one.others ++ two.others;
  apart =
      others_append a.session one.others two.others one.apart
      (subst (λ (n : ℕ). AreOthers n two.others) one.session two.apart);
  front =
      two.front
      ∙ ap (λ (ls : List Line). (ls ++ two.others) ++ []) (one.front ∙ append-nil (a.front ++ one.others))
      ∙ ap (λ (ls : List Line). ls ++ []) (append_assoc a.front one.others two.others);
}

pub stays : (p : Paging) → GoesOn p p
stays p = record {
  moves = still p.view;
  told = refl;
  attempt = λ a is. record { attempt = a; is_open = is; who = refl; since = refl };
  reasons = λ has. has;
}

pub goes_on : (p q r : Paging) → GoesOn p q → GoesOn q r → GoesOn p r
goes_on p q r one two = record {
  moves = moves_on p.view q.view r.view one.moves two.moves;
  told = two.told ∙ one.told;
  attempt = λ a is.
      let first = one.attempt a is in
      let second = two.attempt first.attempt first.is_open in
      record {
        attempt = second.attempt;
        is_open = second.is_open;
        who = second.who ∙ first.who;
        since = second.since ∙ first.since;
      };
  reasons = λ has. two.reasons (one.reasons has);
}

pub looks_still : (p : PastPaging) → LooksOn p p
looks_still p = record { moves = still p.view; work = refl; told = λ fault is. is; reasons = λ has. has }

pub looks_on : (p q r : PastPaging) → LooksOn p q → LooksOn q r → LooksOn p r
looks_on p q r one two = record {
  moves = moves_on p.view q.view r.view one.moves two.moves;
  work = two.work ∙ one.work;
  told = λ fault is. two.told fault (one.told fault is);
  reasons = λ has. two.reasons (one.reasons has);
}
