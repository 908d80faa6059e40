-- what stopped the writing stopped the job
use Rattle.std.specs.Io.Buffered.{writer_contents}
use Rattle.dy_cli.specs.Refusals.{IsCause}
use Rattle.dy_cli.proofs.Halting.{passed_on}
use Rattle.dy_cli.proofs.performing.write_job.Goals as goal

pub returns-in_err-write_lines-clause-only : goal.returns-in_err-write_lines-clause-only
returns-in_err-write_lines-clause-only g c =
    let given = g.L.Read.remaining c.args.lines.now in
    let contents = writer_contents g.W.Write.contents in
    passed_on c.from_residual.result c.in_err-write_lines.field-0.0
    (IsCause c.args.job.now given c.args.bytes.now (contents c.args.out.now)
    (contents c.write_lines.new.out))
    c.from_residual.ensures.1 c.in_err-write_lines.ensures.only
