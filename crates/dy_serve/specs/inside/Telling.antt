-- Steps that are printed in one stretch, and the one session that was told of them.
use Rattle.dy_lines.specs.StepLines.{StepSessions}
use Rattle.dy_serve.specs.Below.{one_session}
use Rattle.dy_serve.specs.declared.news.News.{News}

-- the session of these steps
abbrev pub teller_of : News → StepSessions
teller_of news = one_session news.session news.told
