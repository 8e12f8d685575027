use Rattle.session.proofs.AttemptEnds.{refused_overlap, refused_text}
use Rattle.session.proofs.attempt.refused.Goals as goal

pub returns-in-Some : goal.returns-in-Some
returns-in-Some c = refused_overlap c.args.names.now c.args.why c.in-Some.other c.in-Some.ensures

pub returns-in-None : goal.returns-in-None
returns-in-None c = refused_text c.args.names.now c.args.why c.refusal_reply.result c.in-None.ensures c.refusal_reply.ensures
