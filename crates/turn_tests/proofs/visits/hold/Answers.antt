use Rattle.std.proofs.Common.{◌≡◌, ◌∙◌, ◌≤◌, ℕ, Some, IfSome, Option, sym, subst, arith}
use Rattle.retro_base.specs.declared.device.Device.TheVariants.{Pagelog}
use Rattle.turn.specs.Seats.{mine, seen}
use Rattle.turn_tests.specs.Meanings.{Stands}
use Rattle.turn_tests.specs.declared.small.Start.{Start}
use Rattle.turn.proofs.Handing.{some_of}
use Rattle.turn_tests.proofs.Keeping.{only_rises, raised}
use Rattle.turn_tests.proofs.visits.hold.Goals as goal

pub leave_vault-requires : goal.leave_vault-requires
leave_vault-requires g c =
    let e = c.enter_vault-shelf.ensures in
    let lines = seen c.enter_vault-shelf.new.seat in
    let stands : (x : Start) → c.args.seat.now.seat.me.0.opening ≡ Some x → Stands c.enter_vault-shelf.result.held lines =
    λ x is. subst (λ (o : Option Start). IfSome o (λ y. Stands c.enter_vault-shelf.result.held lines)) is e.fits in
    let up : (x : Start) → c.args.seat.now.seat.me.0.opening ≡ Some x → (c.enter_vault-shelf.result.held ≤ c.raise.new.self.held) × Stands c.raise.new.self.held lines =
    λ x is. subst (λ (n : ℕ). (c.enter_vault-shelf.result.held ≤ n) × Stands n lines) (sym c.raise.ensures.held)
    (raised c.enter_vault-shelf.result.held c.args.lines c.args.seat.now.number (mine c.args.seat.now).lines lines c.requires.ready.lines e.own (stands x is)) in
    let open_ = some_of c.args.seat.now.seat.me.0.opening c.requires.ready.rests.seat.opened in (
      c.enter_vault-shelf.result,
      e.inside,
      record {
        held = (up open_.0 open_.1).0;
        counts = λ d. only_rises Pagelog c.enter_vault-shelf.result.faults c.raise.new.self.faults (let e = c.raise.ensures.rest in omega (arith, e)) d;
        fits = λ x is. (up x (sym e.same.0.opening ∙ is)).1;
      },
    )
