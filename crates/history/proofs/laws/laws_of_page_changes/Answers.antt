use Rattle.history.proofs.Effects.{commits_hold_images, others_hold_no_images, commit_is_last_change, unchanged_stays}
use Rattle.history.proofs.laws.laws_of_page_changes.Goals as goal

pub returns : goal.returns
returns c = record { images = commits_hold_images; no_images = others_hold_no_images; last = commit_is_last_change; unchanged = unchanged_stays }
