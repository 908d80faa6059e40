use Rattle.json.specs.Value.{value_view}
use Rattle.json.proofs.Unique.Spelling.{value-json_tokens_back}
use Rattle.dy_script.proofs.streams.value_at.Goals as goal

-- what was read are the tokens of the value
pub returns-in-Ok : goal.returns-in-Ok
returns-in-Ok c =
    let read = c.in-Ok.ensures in
    record {
      spelled = value-json_tokens_back c.args.depth c.args.reader.now c.read.new.reader (value_view c.in-Ok.value) read.ok;
      shallow = read.nests;
      shorter = read.shorter;
    }
