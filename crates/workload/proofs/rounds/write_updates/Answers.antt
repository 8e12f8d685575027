use Rattle.std.proofs.Common.{◌≡◌, ◌∙◌, ◌+◌, ◌*◌, ◌++◌, ap, arith, refl, string_bytes}
use Rattle.std.specs.List.{flat_map, range_with_len}
use Rattle.workload.specs.Load.{drawn_lines, script_text, updating_lines}
use Rattle.workload.specs.Numbers.{drawn}
use Rattle.workload.proofs.Drawing.{drawn-next, session-drawn}
use Rattle.workload.proofs.Lines.{no-lines, one-more}
use Rattle.workload.proofs.rounds.write_updates.Goals as goal

pub loop-table-init : goal.loop-table-init
loop-table-init c = (refl, no-lines (string_bytes c.args.text.now))

pub loop-table-preserved : goal.loop-table-preserved
loop-table-preserved c =
    let seed = c.args.numbers.now.last in
    let table = c.loop-table.table in
    let first = drawn-next seed (2 * table) (2 * table + 1) _ _ refl c.loop-table.invariant.0 c.next-row.ensures.drawn in
    let second = drawn-next seed (2 * table + 1) (2 * table + 2) _ _ (omega arith) (c.next-row.ensures.last ∙ first) c.next.ensures.drawn in
    let end : 2 * table + 2 ≡ 2 * (table + 1) = omega arith in
    let lines = session-drawn seed table c.next-row.result c.next.result first second in
    let written = c.in_ok-write_update.ensures ∙ ap (λ l. string_bytes c.loop-table.text ++ script_text l) lines in
    (c.next.ensures.last ∙ second ∙ ap (drawn seed) end, one-more (drawn_lines seed 0) table _ _ _ c.loop-table.invariant.1 written)

pub returns-clause-text : goal.returns-clause-text
unfolding updating_lines
returns-clause-text c =
    let whole : c.loop-table.table ≡ 4 = omega (arith, c.loop-table-test.false, c.loop-table.auto.table-end) in
    c.loop-table.invariant.1
    ∙ ap (λ n. string_bytes c.args.text.now ++ script_text (flat_map (drawn_lines c.args.numbers.now.last 0) (range_with_len 0 n))) whole
