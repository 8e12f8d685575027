use Rattle.txn_set.proofs.Pinned.{begin_pins, close_pins, commit_pins, drop_pins, fault_pins, look_all_pins, look_pins, open_pins, told_pins}
use Rattle.txn_set.proofs.laws.laws_of_pins.Goals as goal

pub returns-clause-begin : goal.returns-clause-begin
returns-clause-begin c = begin_pins

pub returns-clause-look : goal.returns-clause-look
returns-clause-look c = look_pins

pub returns-clause-look_all : goal.returns-clause-look_all
returns-clause-look_all c = look_all_pins

pub returns-clause-told : goal.returns-clause-told
returns-clause-told c = told_pins

pub returns-clause-close : goal.returns-clause-close
returns-clause-close c = close_pins

pub returns-clause-commit : goal.returns-clause-commit
returns-clause-commit c = commit_pins

pub returns-clause-open_still : goal.returns-clause-open_still
returns-clause-open_still c = open_pins

pub returns-clause-drop : goal.returns-clause-drop
returns-clause-drop c = drop_pins

pub returns-clause-fault : goal.returns-clause-fault
returns-clause-fault c = fault_pins
