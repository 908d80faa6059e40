use Rattle.std.proofs.Common.{◌/◌, length, refl, sym, arith}
use Rattle.dy_script.proofs.TokenPositions.{sized_ok, sized_err, token_good, token_bad, token_misfit, room}
use Rattle.dy_script.proofs.tokens.token.Goals as goal

-- too few digits or too many
pub returns-then-count-eq0 : goal.returns-then-count-eq0
returns-then-count-eq0 c = sym (token_misfit c.args.text.now c.then-count-eq0.either)

-- the bytes read stand before what was left of sixteen zeros
pub returns-in-Ok : goal.returns-in-Ok
returns-in-Ok c =
    let text = c.args.text.now in
    let d = sized_ok _ _ _ _ c.decode_to_slice.ensures.value c.in-Ok.is in
    token_good text _ _ _ _ c.from_be_bytes.ensures refl (room (length text / 2) (omega arith)) (omega arith) (omega arith) d

-- digits that are none
pub returns-in-Err : goal.returns-in-Err
returns-in-Err c =
    let text = c.args.text.now in
    let d = sized_err _ _ _ _ c.decode_to_slice.ensures.value c.in-Err.is in
    sym (token_bad text _ _ (room (length text / 2) (omega arith)) (omega arith) (omega arith) d)
