use Rattle.std.proofs.Common.{◌≡◌, ◌∙◌, ◌≤◌, sym, ap, subst, arith}
use Rattle.skippy.specs.Mappings.{Mappings, IsTailOf}
use Rattle.page_table.specs.Table.{IsFirstMet, Table}
use Rattle.archive.specs.Side.{Side}
use Rattle.archive.proofs.Finding.{found_below, tail_self}
use Rattle.archive.proofs.side.MapSide.first.Goals as goal
use Rattle.archive.proofs.side.MapSide.first.Goals.{then-covered-upto+in_ok-extend, else-covered-upto}

pub returns-clause-first : goal.returns-clause-first
returns-clause-first g c =
    let levels : Mappings = c.args.self.now.levels in
    let same : c.self.inside.levels ≡ levels = ap (λ (s : Side g.row.D.Denot). s.levels) c.self.view_is in
    let covers : IsFirstMet c.if-covered-upto.table levels × (c.if-covered-upto.table.start ≡ c.args.table.now.start) × (c.if-covered-upto.table.start ≤ c.if-covered-upto.table.covered) × (c.args.upto ≤ c.if-covered-upto.table.covered) =
    elim c.if-covered-upto.branch [
      | then-covered-upto+in_ok-extend w ↦
          let extended = w.extend.ensures.first_met levels (subst (λ (m : Mappings). IsTailOf m levels) (sym same) (tail_self levels)) c.requires.met in
          let start : c.if-covered-upto.table.start ≡ c.args.table.now.start = ap (λ (t : Table). t.start) (w.table-is ∙ w.in_ok-extend.ensures.ok) in
          let covered = ap (λ (t : Table). t.covered) (w.table-is ∙ w.in_ok-extend.ensures.ok) in
          (subst (λ (t : Table). IsFirstMet t levels) (sym w.table-is) extended, start, omega (arith, start, covered, w.extend.ensures.start), omega (arith, covered))
      | else-covered-upto w ↦
          let start : c.if-covered-upto.table.start ≡ c.args.table.now.start = ap (λ (t : Table). t.start) w.table-is in
          let covered : c.if-covered-upto.table.covered ≡ c.args.table.now.covered = ap (λ (t : Table). t.covered) w.table-is in
          (subst (λ (t : Table). IsFirstMet t levels) (sym w.table-is) c.requires.met, start, omega (arith, start, covered, c.covered.ensures.start), omega (arith, covered, c.covered.ensures.same, w.if-covered-upto.false))
    ] in
    c.below.ensures ∙ found_below levels c.if-covered-upto.table c.args.table.now.start c.args.upto c.args.page c.find.result covers.0 covers.1 covers.2 covers.3 (c.find.ensures.first_met levels covers.0)
