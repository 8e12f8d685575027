use Rattle.txn_set.proofs.Commits.{commits_are_right, commits_stay_sound, desk_goes_on, images_fit}
use Rattle.txn_set.proofs.laws.laws_of_commits.Goals as goal

pub returns-clause-right : goal.returns-clause-right
returns-clause-right c = commits_are_right

pub returns-clause-images : goal.returns-clause-images
returns-clause-images c = images_fit

pub returns-clause-going : goal.returns-clause-going
returns-clause-going c = desk_goes_on

pub returns-clause-sound : goal.returns-clause-sound
returns-clause-sound c = commits_stay_sound
