use Rattle.std.proofs.Common.{◌≡◌, ◌++◌, drop}
use Rattle.session.specs.Replies.{kept_at_place, sessions_text}
use Rattle.session.proofs.printing.write_sessions.Given as goal

abbrev pub invariant-loop-place : goal.invariant-loop-place
invariant-loop-place l =
    l.out.items ++ sessions_text l.lines (kept_at_place l.kept) l.place (drop l.place l.sessions) ≡ l.initial.out.items ++ sessions_text l.lines (kept_at_place l.kept) 0 l.sessions
