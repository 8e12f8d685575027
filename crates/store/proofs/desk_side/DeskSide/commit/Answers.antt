use Rattle.store.proofs.Leaving.{whole_core}
use Rattle.std.proofs.Common.{refl}
use Rattle.store.proofs.Committing.{commits, numbered}
use Rattle.store.proofs.desk_side.DeskSide.commit.Goals as goal

pub commit-answer-requires-clause-core : goal.commit-answer-requires-clause-core
commit-answer-requires-clause-core g c = whole_core g.D.Disk.is_honest g.D.Disk.state c.args.self.now c.requires.stands

pub returns-clause-does : goal.returns-clause-does
returns-clause-does g c = λ t there. record { pages = c.commit-answer.ensures.pages; honest = c.commit-answer.ensures.same.honest; names = c.names_log.ensures; refused = λ why e. let r = c.commit-answer.ensures.refused t why (record { is_open = there; is = e }) in (r.0, r.1, r.2, c.commit-answer.ensures.stays t why (record { is_open = there; is = e })); number = numbered c.args.mark _ c.commit-answer.result c.commit-answer.ensures.number; makes = λ free. record { ended = c.commit-answer.ensures.ledger t (record { is_open = there; free = free }); cause = c.commit-answer.ensures.cause t (record { is_open = there; free = free }); untouched = c.commit-answer.ensures.untouched t (record { is_open = there; free = free }); nothing = c.commit-answer.ensures.nothing t (record { is_open = there; free = free }); done = λ opening plain is. c.commit-answer.ensures.done opening plain t is (record { is_open = there; free = free }); failed = λ opening plain is. c.commit-answer.ensures.failed opening plain t is (record { is_open = there; free = free }); any_moment = λ opening plain is. c.commit-answer.ensures.any_moment opening plain t is (record { is_open = there; free = free }) } }

pub returns-clause-visit : goal.returns-clause-visit
returns-clause-visit g c = let t = c.requires.is_open.transaction in let there = c.requires.is_open.open_there in commits g.D.Disk.is_honest g.D.Disk.state g.D.Disk.faults g.D.Disk.remembers g.D.Disk.clock c.args.who c.args.self.now (record { core = c.commit-answer.new.self; start = c.args.self.now.start }) refl c.requires.stands _ t c.commit-answer.result there c.requires.is_open.is_of c.count_fits.ensures (record { pages = c.commit-answer.ensures.pages; honest = c.commit-answer.ensures.same.honest; names = c.names_log.ensures; refused = λ why e. let r = c.commit-answer.ensures.refused t why (record { is_open = there; is = e }) in (r.0, r.1, r.2, c.commit-answer.ensures.stays t why (record { is_open = there; is = e })); number = numbered c.args.mark _ c.commit-answer.result c.commit-answer.ensures.number; makes = λ free. record { ended = c.commit-answer.ensures.ledger t (record { is_open = there; free = free }); cause = c.commit-answer.ensures.cause t (record { is_open = there; free = free }); untouched = c.commit-answer.ensures.untouched t (record { is_open = there; free = free }); nothing = c.commit-answer.ensures.nothing t (record { is_open = there; free = free }); done = λ opening plain is. c.commit-answer.ensures.done opening plain t is (record { is_open = there; free = free }); failed = λ opening plain is. c.commit-answer.ensures.failed opening plain t is (record { is_open = there; free = free }); any_moment = λ opening plain is. c.commit-answer.ensures.any_moment opening plain t is (record { is_open = there; free = free }) } })
