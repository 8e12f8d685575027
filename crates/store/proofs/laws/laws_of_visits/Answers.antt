use Rattle.store.proofs.Moments.{carry_opens, commit_opens, cut_opens, drop_opens, edit_opens, look_up_opens, peek_opens, quiet_opens, read_opens, settle_opens, write_back_opens}
use Rattle.store.proofs.laws.laws_of_visits.Goals as goal

pub returns-clause-quiet : goal.returns-clause-quiet
returns-clause-quiet g c = quiet_opens g.D.Disk.is_honest g.D.Disk.state g.D.Disk.faults g.D.Disk.remembers g.D.Disk.clock (λ disk image honest. g.met.D.Disk.only_now disk image honest)

pub returns-clause-write_back : goal.returns-clause-write_back
returns-clause-write_back g c = write_back_opens g.D.Disk.is_honest g.D.Disk.state g.D.Disk.faults g.D.Disk.remembers g.D.Disk.clock (λ disk image honest. g.met.D.Disk.only_now disk image honest)

pub returns-clause-settle : goal.returns-clause-settle
returns-clause-settle g c = settle_opens g.D.Disk.is_honest g.D.Disk.state g.D.Disk.faults g.D.Disk.remembers g.D.Disk.clock (λ disk image honest. g.met.D.Disk.only_now disk image honest)

pub returns-clause-cut : goal.returns-clause-cut
returns-clause-cut g c = cut_opens g.D.Disk.is_honest g.D.Disk.state g.D.Disk.faults g.D.Disk.remembers g.D.Disk.clock (λ disk image honest. g.met.D.Disk.only_now disk image honest)

pub returns-clause-commit : goal.returns-clause-commit
returns-clause-commit g c = commit_opens g.D.Disk.is_honest g.D.Disk.state g.D.Disk.faults g.D.Disk.remembers g.D.Disk.clock (λ disk image honest. g.met.D.Disk.only_now disk image honest)

pub returns-clause-drop : goal.returns-clause-drop
returns-clause-drop g c = drop_opens g.D.Disk.is_honest g.D.Disk.state g.D.Disk.faults g.D.Disk.remembers g.D.Disk.clock (λ disk image honest. g.met.D.Disk.only_now disk image honest)

pub returns-clause-carry : goal.returns-clause-carry
returns-clause-carry g c = carry_opens g.D.Disk.is_honest g.D.Disk.state g.D.Disk.faults g.D.Disk.remembers g.D.Disk.clock (λ disk image honest. g.met.D.Disk.only_now disk image honest)

pub returns-clause-read : goal.returns-clause-read
returns-clause-read g c = read_opens g.D.Disk.is_honest g.D.Disk.state g.D.Disk.faults g.D.Disk.remembers g.D.Disk.clock (λ disk image honest. g.met.D.Disk.only_now disk image honest)

pub returns-clause-edit : goal.returns-clause-edit
returns-clause-edit g c = edit_opens g.D.Disk.is_honest g.D.Disk.state g.D.Disk.faults g.D.Disk.remembers g.D.Disk.clock (λ disk image honest. g.met.D.Disk.only_now disk image honest)

pub returns-clause-peek : goal.returns-clause-peek
returns-clause-peek g c = peek_opens g.D.Disk.is_honest g.D.Disk.state g.D.Disk.faults g.D.Disk.remembers g.D.Disk.clock (λ disk image honest. g.met.D.Disk.only_now disk image honest)

pub returns-clause-look_up : goal.returns-clause-look_up
returns-clause-look_up g c = look_up_opens g.D.Disk.is_honest g.D.Disk.state g.D.Disk.faults g.D.Disk.remembers g.D.Disk.clock (λ disk image honest. g.met.D.Disk.only_now disk image honest)
