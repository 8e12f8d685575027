use Rattle.std.proofs.Common.{◌∙◌, refl, ap, subst}
use Rattle.journal_book.specs.Book.{Book}
use Rattle.journal_law.specs.Lawful.{IsFault}
use Rattle.journal_law.specs.Seats as seat
use Rattle.plain_store.specs.Plain.{Plain, view_of}
use Rattle.plain_store.proofs.Gives.{goes, mine_looking, no_fault_unlooks, unlook_gives, unlooked_keeps}
use Rattle.plain_store.proofs.seat.PlainStoreSeat.unlook.Goals as goal

pub invariant_of-self : goal.invariant_of-self
invariant_of-self c = unlooked_keeps _ c.take_look-look.result _ c.args.why c.close.new.self c.take_look-look.new.self c.self.invariant c.take_look-look.ensures.look c.unlooking.ensures c.close.ensures c.take_look-look.ensures.idle

pub returns-clause-gives : goal.returns-clause-gives
returns-clause-gives c a looking =
    let p : Plain = record { session = c.self.inside.session; base = c.self.inside.base; book = c.self.inside.book; pages = c.self.inside.pages.items; work = c.self.inside.work } in
    let q : Plain = record p { book = c.close.new.self; work = c.take_look-look.new.self } in
    subst (λ (r : Plain). seat.UnlookGives c.args.why (view_of r) (view_of q) a) c.self.view_is
    (unlook_gives p q c.take_look-look.result _ c.args.why a c.take_look-look.ensures.look c.unlooking.ensures refl refl (ap (λ (b : Book). b.lines) c.close.ensures) c.take_look-look.ensures.idle (ap (λ (r : Plain). (view_of r).work) c.self.view_is ∙ looking))

pub returns-clause-goes : goal.returns-clause-goes
returns-clause-goes c =
    let p : Plain = record { session = c.self.inside.session; base = c.self.inside.base; book = c.self.inside.book; pages = c.self.inside.pages.items; work = c.self.inside.work } in
    goes p c.args.self.now _ c.take_look-look.result.who _ c.self.view_is refl refl (mine_looking p c.take_look-look.result c.self.invariant c.take_look-look.ensures.look)
    (λ fault. no_fault_unlooks (view_of c.args.self.now) c.args.why refl c.requires.may_end (subst IsFault c.unlooking.ensures fault)) (ap (λ (b : Book). b.lines) c.close.ensures)
