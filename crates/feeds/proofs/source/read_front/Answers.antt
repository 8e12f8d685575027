use Rattle.std.proofs.Common.{◌≡◌, ◌+◌, ◌++◌, ◌∙◌, Ok, Err, ℕ, Result, OnErr, drop, vec_len, arith}
use Rattle.std.proofs.lemmas.List.{length-take, length-take-le, length-append}
use Rattle.feeds.proofs.Pieces.{front-more, rest-more, front-all}
use Rattle.feeds.proofs.source.read_front.Goals as goal
use Rattle.feeds.proofs.source.read_front.Goals.{else-pieces-test, then-pieces-test+in-Ok-eq0}

pub pieces-preserved : goal.pieces-preserved
pieces-preserved g c =
    let rest = drop c.min-most.result c.pieces.piece in
    let bound = c.in-Ok.ensures.bound in
    let part = length-take-le c.in-Ok.n (c.take.new.out ++ rest) (omega (arith, length-append c.take.new.out rest)) in
    let total : vec_len c.extend_from_slice.new.self ≡ vec_len c.pieces.read + c.in-Ok.n =
    omega (arith, c.in_ok-extend_from_slice-in-Ok.ensures.len, part) in
    record {
      within = omega (arith, length-take {A = ℕ});
      front = rw (c.in_ok-extend_from_slice-in-Ok.ensures.items, total) (front-more _ _ _ _ rest _ _ bound c.pieces.invariant.front c.pieces.invariant.rest c.in-Ok.ensures.bytes);
      rest = rw total (rest-more _ _ _ _ _ c.pieces.invariant.rest c.in-Ok.ensures.rest);
      steady = c.in-Ok.ensures.cause.steady ∙ c.pieces.invariant.steady;
    }

on_err : {T E : Type 0} (r : Result T E) (P : Type 0) → P → OnErr r P
on_err (Ok x) P p = tt
on_err (Err e) P p = p

pub returns-in_err-extend_from_slice-in-Ok-clause-lost :
    goal.returns-in_err-extend_from_slice-in-Ok-clause-lost
returns-in_err-extend_from_slice-in-Ok-clause-lost g c =
    let bound = c.in-Ok.ensures.bound in
    on_err c.from_residual.result _ (vec_len c.pieces.read + c.in-Ok.n, omega (arith, length-take {A = ℕ}), rest-more _ _ _ _ _ c.pieces.invariant.rest c.in-Ok.ensures.rest)

pub returns-clause-bytes : goal.returns-clause-bytes
returns-clause-bytes g c =
    elim c.pieces-test.branch [
      | else-pieces-test w ↦
          let full : c.args.limit ≡ vec_len c.pieces.read = omega arith in
          rw full c.pieces.invariant.front
      | then-pieces-test+in-Ok-eq0 w ↦
          front-all _ _ _ w.take.new.out _ _ _ (omega arith) c.pieces.invariant.within c.pieces.invariant.front c.pieces.invariant.rest w.in-Ok-eq0.ensures.bytes
    ]
