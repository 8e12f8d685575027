use Rattle.std.proofs.Common.{◌≡◌, ◌∙◌, ◌+◌, ◌∷◌, [], drop, take, length, sym, ap, arith}
use Rattle.skippy.specs.FirstTable.{meet}
use Rattle.skippy.specs.Segments.{from_start, meet_each}
use Rattle.skippy.proofs.ScanLemmas.{take-meet}
use Rattle.skippy.proofs.MeetLemmas.{meet_each-more}
use Rattle.skippy.proofs.levels.climb.meet_segment.Goals as goal

pub loop-index-preserved : goal.loop-index-preserved
loop-index-preserved g c = record {
  rest =
      ap (λ t. meet_each t (from_start c.args.start (drop (c.loop-index.index + 1) c.args.segment.now))) c.in_ok-meet.ensures.ok
      ∙ sym (meet_each-more c.loop-index.table c.args.start c.args.segment.now c.loop-index.index c.read-page.result c.read-page.ensures.entry)
      ∙ c.loop-index.invariant.rest;
  kept =
      ap (take (length c.args.table.now)) c.in_ok-meet.ensures.ok
      ∙ take-meet c.args.table.now c.loop-index.table (from_start c.args.start (c.read-page.result ∷ [])) c.loop-index.invariant.kept;
  counted = omega (arith, c.read-page.ensures.step, c.loop-index.invariant.counted);
}
