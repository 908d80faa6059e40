-- A line of which the members were read one by one.
use Rattle.std.proofs.Common.{◌≡◌, ◌≤◌, ℕ, List, [], ◌++◌, Option, Some, option_and_then, Result, Ok, Err, IfOk, ap, ◌∙◌, arith}
use Rattle.std.specs.Prelude.{IsUtf8}
use Rattle.json.specs.Json as json
use Rattle.json.specs.Lex.{tokens}
use Rattle.json.specs.Tree.{json_tokens, depth}
use Rattle.json.proofs.Printed.Trees.{value-json_tokens}
use Rattle.serde_json.specs.Data.{Data, Members, object}
use Rattle.serde_json.specs.Read.{max_depth}
use Rattle.dy_dots.specs.declared.faults.Fault.{Fault}
use Rattle.dy_script.specs.Members.{◌>>=◌, need}
use Rattle.dy_script.specs.Reading.{data_of}
use Rattle.dy_script.specs.Requests.{RequestParts, request_of, request_of_text}
use Rattle.dy_script.specs.inside.Documents.{document}
use Rattle.dy_script.specs.inside.Fields.{AreTold}
use Rattle.dy_script.specs.inside.Readings.{IsReadingOf}
use Rattle.dy_script.proofs.TextsRead.{data_read}

-- the text spells an object of these members
told_data : (text : List ℕ) (told : Members) → IsUtf8 text → AreTold (tokens text) told [] → data_of text ≡ Some (object told)
told_data text told u r =
    let j = json.object r.members in
    let flat = r.flat in
    let deep : depth j ≤ max_depth = omega arith in
    let spelled : tokens text ≡ json_tokens j ++ [] = r.spelled in
    let read : document text ≡ Some j = ap (option_and_then (λ p. json.if_last p.0 p.1)) (ap (json.value max_depth) spelled ∙ value-json_tokens j max_depth [] deep) in
    data_read text j u read r.ranged ∙ ap (λ ms. Some (object ms)) r.says

-- what is read of the members is read of the text
pub request_read : {A : Type 0} (f : A → RequestParts) (nodes k : ℕ) (text : List ℕ) (told : Members) (r : Result A Fault) → IsUtf8 text → AreTold (tokens text) told []
    → IsReadingOf f r (request_of nodes k (object told)) → IfOk r (λ x. request_of_text nodes k text ≡ Ok (f x))
unfolding request_of_text
request_read f nodes k text told (Ok x) u h m = ap (λ (d : Option Data). need k d >>= request_of nodes k) (told_data text told u h) ∙ m
request_read f nodes k text told (Err e) u h m = tt
