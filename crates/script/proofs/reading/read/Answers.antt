use Rattle.std.proofs.Common.{Result, Ok, Err, OnOk, ◌≡◌, ◌+◌, ◌≤◌, ◌==◌, ◌&&◌, length, length-take, sym, ◌∙◌, arith}
use Rattle.std.proofs.lemmas.Bool.Decides.{nat_tests}
use Rattle.script.specs.declared.limits.TheConstants.{SCRIPT_BYTES}
use Rattle.script.proofs.ReadLaws.{goes_too_far, read_none, read_more, bad_line, end_good, end_only, end_fits, end_short, end_bad}
use Rattle.script.proofs.ToldLaws.{good_told}
use Rattle.script.proofs.reading.read.Goals as goal
use Rattle.script.proofs.reading.read.Goals.{then-too_far, else-too_far}

pub loop-rest-init : goal.loop-rest-init
loop-rest-init c =
    let rest = c.first_bytes-rest in
    let short : length rest.result.now ≤ SCRIPT_BYTES + 1 = rw rest.ensures (omega (arith, length-take (SCRIPT_BYTES + 1) c.args.bytes.now)) in
    read_none c.args.bytes.now rest.result.now rest.ensures short

pub returns-in-None-clause-refused : goal.returns-in-None-clause-refused
returns-in-None-clause-refused c =
    let bytes = c.args.bytes.now in
    let first = c.split_line.result.0.now in
    let more = c.split_line.result.1.now in
    let last : c.if-too_far.read_line ≡ (goes_too_far bytes && (length more == 0)) =
    elim c.if-too_far.branch [ then-too_far w ↦ grind (arith, nat_tests) | else-too_far w ↦ grind (arith, nat_tests) ] in
    bad_line bytes c.loop-rest.rest.now more first c.loop-rest.number c.loop-rest.draft c.in_ok-line.line c.loop-rest.invariant c.split_line.ensures.first
    (rw last at c.in_ok-line.ensures.found) (rw last at c.in_ok-line.ensures.only) (sym c.in_ok-next.ensures ∙ c.in-None.is)

pub loop-rest-preserved : goal.loop-rest-preserved
loop-rest-preserved c =
    let bytes = c.args.bytes.now in
    let first = c.split_line.result.0.now in
    let more = c.split_line.result.1.now in
    let last : c.if-too_far.read_line ≡ (goes_too_far bytes && (length more == 0)) =
    elim c.if-too_far.branch [ then-too_far w ↦ grind (arith, nat_tests) | else-too_far w ↦ grind (arith, nat_tests) ] in
    read_more bytes c.loop-rest.rest.now more first c.loop-rest.number c.loop-rest.draft c.in-Some.next c.in_ok-line.line c.loop-rest.invariant c.split_line.ensures.first
    c.split_line.ensures.shorter (rw last at c.in_ok-line.ensures.found) (rw last at c.in_ok-line.ensures.only) c.in_ok-line.ensures.fits (sym c.in_ok-next.ensures ∙ c.in-Some.is)

pub returns-clause-found : goal.returns-clause-found
returns-clause-found c =
    let rest = c.loop-rest.rest.now in
    let none : length rest ≡ 0 = grind (arith, nat_tests) in
    end_good c.args.bytes.now rest c.loop-rest.number c.loop-rest.draft c.finish.result c.loop-rest.invariant none c.finish.ensures.good

pub returns-clause-told : goal.returns-clause-told
returns-clause-told c = good_told c.args.bytes.now c.finish.result (returns-clause-found c)

pub returns-clause-only : goal.returns-clause-only
returns-clause-only c =
    let rest = c.loop-rest.rest.now in
    let none : length rest ≡ 0 = grind (arith, nat_tests) in
    end_only c.args.bytes.now rest c.loop-rest.number c.loop-rest.draft c.finish.result c.loop-rest.invariant none c.finish.ensures.good

pub returns-clause-fits : goal.returns-clause-fits
returns-clause-fits c =
    end_fits c.args.bytes.now c.loop-rest.rest.now c.loop-rest.number c.loop-rest.draft c.finish.result c.loop-rest.invariant c.finish.ensures.good

on_ok : {T E : Type 0} (r : Result T E) (P : Type 0) → P → OnOk r P
on_ok (Ok x) P p = p
on_ok (Err e) P p = tt

pub returns-clause-short : goal.returns-clause-short
returns-clause-short c =
    let rest = c.loop-rest.rest.now in
    let none : length rest ≡ 0 = grind (arith, nat_tests) in
    on_ok c.finish.result _ (end_short c.args.bytes.now rest c.loop-rest.number c.loop-rest.draft c.loop-rest.invariant none)

pub returns-clause-refused : goal.returns-clause-refused
returns-clause-refused c =
    let rest = c.loop-rest.rest.now in
    let none : length rest ≡ 0 = grind (arith, nat_tests) in
    end_bad c.args.bytes.now rest c.loop-rest.number c.loop-rest.draft c.finish.result c.loop-rest.invariant none c.finish.ensures.bad
