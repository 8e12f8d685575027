use Rattle.std.proofs.Common.{◌∙◌, ◌++◌, string_bytes, ap, codes, decimal}
use Rattle.std.proofs.lemmas.Result.{on_ok_weaker}
use Rattle.workload.specs.Load.{create_line}
use Rattle.workload.proofs.Lines.{numbered-line}
use Rattle.workload.proofs.load.write_create.Goals as goal

pub returns : goal.returns
unfolding create_line
returns c =
    let same = numbered-line (codes "CREATE TABLE t") (decimal c.args.table) (codes "(a INT, b INT)") in
    on_ok_weaker c.writeln.result (λ written. written ∙ ap (λ t. string_bytes c.args.text.now ++ t) same) c.writeln.ensures.bytes
