-- what refused it stopped the serving
use Rattle.std.proofs.Common.{rules}
use Rattle.dy_serve.proofs.services.ServiceMarkedWork.run.Goals as goal

pub returns-in-Err-Refused-clause-refused : goal.returns-in-Err-Refused-clause-refused
returns-in-Err-Refused-clause-refused g c = (
  c.in-Err-Refused.ensures.out,
  c.in-Err-Refused.ensures.only c.in-Err-Refused.fault (search rules),
)
