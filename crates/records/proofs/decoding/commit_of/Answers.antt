use Rattle.records.proofs.Fields.{images_rise}
use Rattle.records.proofs.decoding.commit_of.Goals as goal

pub new-writes-requires : goal.new-writes-requires
new-writes-requires c = images_rise c.args.version c.in_ok-count.count 0 c.in_ok-count.rest.now (c.in_ok-images.images.items, c.in_ok-images.rest.now) c.in_ok-images.ensures
