use Rattle.std.proofs.Common.{◌∙◌, refl}
use Rattle.dy_coord.proofs.get_endings.finish.Goals as goal

-- what is given is what was told, gathered and read
pub returns-in-Ok-clause-ok : goal.returns-in-Ok-clause-ok
returns-in-Ok-clause-ok g c = record {
  since_is = c.at-since.ensures ∙ c.since.ensures;
  row = c.in-Ok.ensures.row;
  context = c.in-Ok.ensures.context;
  from = c.into_parts-seen.ensures.places;
  seen = c.into_parts-seen.ensures.seens;
  answers_are = refl;
}
