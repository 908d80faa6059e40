-- A script of which the commands, which stand last, are read one by one behind its other members.
use Rattle.std.proofs.Common.{◌≡◌, ℕ, ◌+◌, ◌≤◌, List, [], ◌∷◌, ◌++◌, codes, Bool, true, false, ◌&&◌, nat_le, if◌then◌else◌, Some, option_and_then, Result, Ok, Err, IfOk, bytes_eq, refl, sym, ap, ◌∙◌, subst, arith, append_assoc, append-nil}
use Rattle.std.proofs.lemmas.Bool.{and_parts}
use Rattle.std.proofs.lemmas.Bool.Decides.{nat_tests}
use Rattle.std.proofs.lemmas.Slice.Eq.{bytes_eq-Decides}
use Rattle.std.specs.Prelude.{IsUtf8}
use Rattle.json.specs.Json as json
use Rattle.json.specs.Lex.{tokens}
use Rattle.json.specs.Token.{Token}
use Rattle.json.specs.Tree.{json_tokens, items_tokens, members_tokens, depth, items_depth, members_depth}
use Rattle.json.specs.Value.{value_view}
use Rattle.json.specs.Value as json_value
use Rattle.json.proofs.Printed.Trees.{value-json_tokens}
use Rattle.json.proofs.Trees.{members_before}
use Rattle.serde_json.specs.Data.{Data, array, object, Items, Members, no_members, put}
use Rattle.serde_json.specs.Events.{items_len}
use Rattle.serde_json.specs.Find.{get as member_of, as_array}
use Rattle.serde_json.specs.Read.{max_depth}
use Rattle.serde_json.proofs.Views.{get_member-put, get_member-put_other}
use Rattle.dy_dots.specs.declared.faults.Fault.{Fault}
use Rattle.dy_dots.specs.declared.faults.Fault.TheVariants.{ScriptSyntax}
use Rattle.dy_script.specs.declared.scripts.Limits.{Limits}
use Rattle.dy_script.specs.declared.scripts.TheConstants.{MAX_COMMANDS}
use Rattle.dy_script.specs.Members.{◌>>=◌, need, optional, allow_only, as_small, as_flag, small, flag, optional_list, each_of}
use Rattle.dy_script.specs.Orders.{CommandParts, command_of}
use Rattle.dy_script.specs.Reading.{LayoutParts, ScriptParts, node_count, layout_given, limits_given, keys_given, run_given, tokens_given, limits_of, keys_of, run_of, command_at, commands_given, script_names, script_of, script_of_text}
use Rattle.dy_script.specs.inside.Documents.{data_in, items_in, members_in, members_view, in_range, items_in_range, members_in_range, document}
use Rattle.dy_script.specs.inside.Readings.{IsReadingOf}
use Rattle.dy_script.specs.inside.Streams.{Entry, entries_tokens, AreShallow, IsRead, OpensScript, IsOwnScript, IsCommand, AreCommands, IsRun}
use Rattle.dy_script.proofs.KnownKeys.{knows_put}
use Rattle.dy_script.proofs.ListsRead.{after, after-nil, after-push}
use Rattle.dy_script.proofs.TextsRead.{data_read}

-- ---- the text

abbrev run_of_items : json.Items → json.Members
run_of_items js = json.member (codes "run") (json.array js) json.no_members

members_spelled : (es : List Entry) (js : json.Items)
    → entries_tokens es ++ Token.key (codes "run") ∷ Token.begin_array ∷ (items_tokens js ++ Token.end_object ∷ [])
    ≡ members_tokens (members_before es (run_of_items js))
members_spelled [] js = refl
members_spelled (m ∷ es) js =
    let mine = json_tokens (value_view m.1) in
    ap (λ ts. Token.key m.0.now ∷ ts) (append_assoc mine (entries_tokens es) (Token.key (codes "run") ∷ Token.begin_array ∷ (items_tokens js ++ Token.end_object ∷ [])) ∙ ap (λ ts. mine ++ ts) (members_spelled es js))

all_shallow : (es : List Entry) (js : json.Items) → AreShallow 126 es → items_depth js ≤ 125 → members_depth (members_before es (run_of_items js)) ≤ 126
all_shallow [] js h k = omega arith
all_shallow (m ∷ es) js h k =
    let here = h.0 in
    let later = all_shallow es js h.1 k in
    omega arith

all_ranged : (es : List Entry) (js : json.Items) → members_in_range (json_value.members_view es) ≡ true → items_in_range js ≡ true
    → members_in_range (members_before es (run_of_items js)) ≡ true
all_ranged [] js h k = ap (λ b. b && true) k
all_ranged (m ∷ es) js h k =
    let p = and_parts (in_range (value_view m.1)) (members_in_range (json_value.members_view es)) h in
    let later = all_ranged es js p.1 k in
    λ i. p.0 i && later i

-- the commands go in last
all_put : (es : List Entry) (js : json.Items) (found : Members)
    → members_in (members_before es (run_of_items js)) found ≡ put (codes "run") (array (items_in js)) (members_in (json_value.members_view es) found)
all_put [] js found = refl
all_put (m ∷ es) js found = all_put es js (put m.0.now (data_in (value_view m.1)) found)

text_read : (text : List ℕ) (es : List Entry) (js : json.Items) (rest : List Token) → OpensScript (tokens text) es rest
    → rest ≡ items_tokens js ++ Token.end_object ∷ [] → items_depth js ≤ 125
    → document text ≡ Some (json.object (members_before es (run_of_items js)))
text_read text es js rest o r k =
    let j = json.object (members_before es (run_of_items js)) in
    let spelled : tokens text ≡ json_tokens j =
    o.spelled ∙ ap (λ ts. Token.begin_object ∷ (entries_tokens es ++ Token.key (codes "run") ∷ Token.begin_array ∷ ts)) r ∙ ap (λ ts. Token.begin_object ∷ ts) (members_spelled es js) in
    let shallow : members_depth (members_before es (run_of_items js)) ≤ 126 = all_shallow es js o.shallow k in
    let deep : depth j ≤ max_depth = omega arith in
    ap (option_and_then (λ p. json.if_last p.0 p.1)) (ap (json.value max_depth) (spelled ∙ sym (append-nil (json_tokens j))) ∙ value-json_tokens j max_depth [] deep)

-- ---- the script

kept : (name : List ℕ) (x : Data) (ms : Members) → bytes_eq (codes "run") name ≡ false → member_of name (object (put (codes "run") x ms)) ≡ member_of name (object ms)
kept name x ms other = get_member-put_other name (codes "run") x ms (λ same. let s = (bytes_eq-Decides (codes "run") name).1 (sym same) in cc)

allowed : (x : Data) (ms : Members) → allow_only 0 script_names (object (put (codes "run") x ms)) ≡ allow_only 0 script_names (object ms)
unfolding allow_only script_names
allowed x ms = ap (λ b. if b then Ok tt else Err (ScriptSyntax 0)) (knows_put script_names (codes "run") x ms)

abbrev Going : Type 0 → Type 0
Going A = ℕ → ℕ → ℕ → LayoutParts → Limits → List (List ℕ) → Bool → Result A Fault

-- a script's own members, and what is made of them
abbrev own_then : {A : Type 0} → Data → Going A → Result A Fault
own_then d k = do
  _ ← allow_only 0 script_names d
  n ← small 0 (codes "n") d
  r ← small 0 (codes "r") d
  w ← small 0 (codes "w") d
  layout ← tokens_given d
  limits ← limits_of d
  keys ← keys_of d
  settled ← flag 0 (codes "settled") d
  k n r w layout limits keys settled

abbrev with_run_of : Data → Going ScriptParts
with_run_of d n r w layout limits keys settled =
    run_of (node_count layout) d >>= (λ run. Ok (record { n = n; r = r; w = w; layout = layout; limits = limits; keys = keys; settled = settled; run = run }))

script_is : (d : Data) → script_of d ≡ own_then d (with_run_of d)
unfolding script_of
script_is d = refl

own_same : {A : Type 0} (x : Data) (ms : Members) (k : Going A) → own_then (object (put (codes "run") x ms)) k ≡ own_then (object ms) k
unfolding small flag optional_list tokens_given limits_of keys_of
own_same x ms k =
    λ i. allowed x ms i >>= (λ _. need 0 (option_and_then as_small (kept (codes "n") x ms refl i)) >>= (λ n. need 0 (option_and_then as_small (kept (codes "r") x ms refl i))
    >>= (λ r. need 0 (option_and_then as_small (kept (codes "w") x ms refl i))
    >>= (λ w. (optional 0 as_array (kept (codes "tokens") x ms refl i) >>= (λ lists. layout_given lists (kept (codes "derived") x ms refl i)))
    >>= (λ layout. limits_given (kept (codes "limits") x ms refl i) >>= (λ limits. (optional 0 as_array (kept (codes "keys") x ms refl i) >>= keys_given)
    >>= (λ keys. as_flag 0 (kept (codes "settled") x ms refl i) >>= (λ settled. k n r w layout limits keys settled))))))))

step_ok : {A B C : Type 0} (r : Result A Fault) (f : A → Result B Fault) (g : A → Result C Fault) (b : B) (c : C) → ((x : A) → f x ≡ Ok b → g x ≡ Ok c) → (r >>= f) ≡ Ok b → (r >>= g) ≡ Ok c
step_ok (Ok x) f g b c h e = h x e
step_ok (Err x) f g b c h e = cc

any_then : {B C : Type 0} (d : Data) (k : Going B) (l : Going C) (b : B) (c : C)
    → ((n r w : ℕ) (layout : LayoutParts) (limits : Limits) (keys : List (List ℕ)) (settled : Bool) → k n r w layout limits keys settled ≡ Ok b → l n r w layout limits keys settled ≡ Ok c)
    → own_then d k ≡ Ok b → own_then d l ≡ Ok c
any_then d k l b c h =
    step_ok (allow_only 0 script_names d) _ _ b c
    (λ _. step_ok (small 0 (codes "n") d) _ _ b c (λ n. step_ok (small 0 (codes "r") d) _ _ b c (λ r. step_ok (small 0 (codes "w") d) _ _ b c
    (λ w. step_ok (tokens_given d) _ _ b c (λ layout. step_ok (limits_of d) _ _ b c (λ limits. step_ok (keys_of d) _ _ b c
    (λ keys. step_ok (flag 0 (codes "settled") d) _ _ b c (λ settled. h n r w layout limits keys settled))))))))

run_found : (nodes : ℕ) (items : Items) (ms : Members) → run_of nodes (object (put (codes "run") (array items) ms)) ≡ commands_given nodes items
unfolding run_of optional_list run_given
run_found nodes items ms = ap (λ o. optional 0 as_array o >>= run_given nodes) (get_member-put (codes "run") (array items) ms)

-- the commands take the place of those that were there
replaced : (o : Result (List CommandParts) Fault) (ms : Members) (items : Items) (p : ScriptParts) (run : List CommandParts)
    (n r w : ℕ) (layout : LayoutParts) (limits : Limits) (keys : List (List ℕ)) (settled : Bool)
    → (o >>= (λ before. Ok (record { n = n; r = r; w = w; layout = layout; limits = limits; keys = keys; settled = settled; run = before }))) ≡ Ok p
    → commands_given (node_count p.layout) items ≡ Ok run
    → with_run_of (object (put (codes "run") (array items) ms)) n r w layout limits keys settled ≡ Ok (record p { run = run })
replaced (Err e) ms items p run n r w layout limits keys settled h g = cc
replaced (Ok before) ms items p run n r w layout limits keys settled h g =
    let mine : ScriptParts = record { n = n; r = r; w = w; layout = layout; limits = limits; keys = keys; settled = settled; run = before } in
    let same : mine ≡ p = cc in
    let given : commands_given (node_count layout) items ≡ Ok run = ap (λ (s : ScriptParts). commands_given (node_count s.layout) items) same ∙ g in
    ap (λ o. o >>= (λ found. Ok (record { n = n; r = r; w = w; layout = layout; limits = limits; keys = keys; settled = settled; run = found }))) (run_found (node_count layout) items ms ∙ given)
    ∙ ap (λ (s : ScriptParts). Ok (record s { run = run })) same

with_run : (ms : Members) (items : Items) (p : ScriptParts) (run : List CommandParts) → script_of (object ms) ≡ Ok p → commands_given (node_count p.layout) items ≡ Ok run
    → script_of (object (put (codes "run") (array items) ms)) ≡ Ok (record p { run = run })
with_run ms items p run e g =
    let whole = object (put (codes "run") (array items) ms) in
    script_is whole ∙ own_same (array items) ms (with_run_of whole)
    ∙ any_then (object ms) (with_run_of (object ms)) (with_run_of whole) p (record p { run = run })
    (λ n r w layout limits keys settled h. replaced (run_of (node_count layout) (object ms)) ms items p run n r w layout limits keys settled h g)
    (sym (script_is (object ms)) ∙ e)

-- the text's members before its commands are a script, and its commands go into it
pub script_streamed : (text : List ℕ) (own : List Entry) (rest : List Token) (p : ScriptParts) (run : List CommandParts) → IsUtf8 text
    → OpensScript (tokens text) own rest → IsOwnScript own p → IsRun (node_count p.layout) rest run → script_of_text text ≡ Ok (record p { run = run })
unfolding script_of_text
script_streamed text own rest p run u o w r =
    let j = json.object (members_before own (run_of_items r.list)) in
    let spelt = data_read text j u (text_read text own r.list rest o r.spelled r.shallow) (all_ranged own r.list w.ranged r.ranged) in
    ap (λ x. need 0 x >>= script_of) spelt ∙ ap (λ ms. script_of (object ms)) (all_put own r.list no_members) ∙ with_run (members_view own) (items_in r.list) p run w.says r.says

-- what is read of the members alone
pub own_read : {A : Type 0} (f : A → ScriptParts) (own : List Entry) (j : json.Json) (r : Result A Fault) → members_in_range (json_value.members_view own) ≡ true
    → j ≡ json.object (json_value.members_view own) → IsReadingOf f r (script_of (data_in j)) → IfOk r (λ script. IsOwnScript own (f script))
own_read f own j (Ok x) h e m = record { ranged = h; says = ap (λ i. script_of (data_in i)) (sym e) ∙ m }
own_read f own j (Err x) h e m = tt

-- ---- the members before the commands

-- the members stand in front of what is left
pub record HasPassed (start : List Token) (own : List Entry) (left : List Token) : Type 0 where
  pub spelled : start ≡ entries_tokens own ++ left
  pub shallow : AreShallow 126 own

pub HasPassed-start : (start : List Token) (own : List Entry) → own ≡ [] → HasPassed start own start
HasPassed-start start own none = record { spelled = ap (λ es. entries_tokens es ++ start) (sym none); shallow = subst (AreShallow 126) (sym none) tt }

entries_more : (own : List Entry) (m : Entry) (left : List Token)
    → entries_tokens own ++ Token.key m.0.now ∷ (json_tokens (value_view m.1) ++ left) ≡ entries_tokens (own ++ m ∷ []) ++ left
entries_more [] m left = ap (λ ts. Token.key m.0.now ∷ (ts ++ left)) (sym (append-nil (json_tokens (value_view m.1))))
entries_more (n ∷ own) m left =
    let mine = json_tokens (value_view n.1) in
    ap (λ ts. Token.key n.0.now ∷ ts)
    (append_assoc mine (entries_tokens own) (Token.key m.0.now ∷ (json_tokens (value_view m.1) ++ left)) ∙ ap (λ ts. mine ++ ts) (entries_more own m left) ∙ sym (append_assoc mine (entries_tokens (own ++ m ∷ [])) left))

shallow_more : (own : List Entry) (m : Entry) → AreShallow 126 own → depth (value_view m.1) ≤ 126 → AreShallow 126 (own ++ m ∷ [])
shallow_more [] m h k = (k, tt)
shallow_more (n ∷ own) m h k = (h.0, shallow_more own m h.1 k)

pub HasPassed-more : (start : List Token) (own own' : List Entry) (m : Entry) (left at new : List Token) → HasPassed start own left → left ≡ Token.key m.0.now ∷ at → IsRead 126 at (value_view m.1) new
    → own' ≡ own ++ m ∷ [] → HasPassed start own' new
HasPassed-more start own own' m left at new h k r pushed =
    let passed : start ≡ entries_tokens (own ++ m ∷ []) ++ new =
    h.spelled ∙ ap (λ ts. entries_tokens own ++ ts) (k ∙ ap (λ ts. Token.key m.0.now ∷ ts) r.spelled) ∙ entries_more own m new in
    record { spelled = passed ∙ ap (λ es. entries_tokens es ++ new) (sym pushed); shallow = subst (AreShallow 126) (sym pushed) (shallow_more own m h.shallow r.shallow) }

pub HasPassed-opens : (old start : List Token) (own : List Entry) (left at new : List Token) → old ≡ Token.begin_object ∷ start → HasPassed start own left → left ≡ Token.key (codes "run") ∷ at
    → at ≡ Token.begin_array ∷ new → OpensScript old own new
HasPassed-opens old start own left at new o h k a =
    record { spelled = o ∙ ap (λ ts. Token.begin_object ∷ ts) (h.spelled ∙ ap (λ ts. entries_tokens own ++ ts) (k ∙ ap (λ ts. Token.key (codes "run") ∷ ts) a)); shallow = h.shallow }

-- ---- the commands

-- what is read of a command's value
pub command_read : {A : Type 0} (f : A → CommandParts) (nodes k : ℕ) (old new : List Token) (j : json.Json) (r : Result A Fault) → IsRead 125 old j new → in_range j ≡ true
    → IsReadingOf f r (command_of nodes k (data_in j)) → IfOk r (λ command. IsCommand nodes k old (f command) new)
command_read f nodes k old new j (Ok x) i h m = record { value = j; read = i; ranged = h; says = m }
command_read f nodes k old new j (Err x) i h m = tt

-- the commands that were read stand in front of those that are left
pub record HasCommands (nodes : ℕ) (start : List Token) (number : ℕ) (done : List CommandParts) (left : List Token) : Type 0 where
  pub front : json.Items → json.Items
  pub spelled : (js : json.Items) (new : List Token) → left ≡ items_tokens js ++ new → start ≡ items_tokens (front js) ++ new
  pub shallow : (js : json.Items) → items_depth js ≤ 125 → items_depth (front js) ≤ 125
  pub ranged : (js : json.Items) → items_in_range js ≡ true → items_in_range (front js) ≡ true
  pub counted : (js : json.Items) → items_len (items_in (front js)) ≡ number + items_len (items_in js)
  pub says : (js : json.Items) → each_of (command_at nodes) 0 (items_in (front js)) ≡ after done (each_of (command_at nodes) number (items_in js))

pub HasCommands-start : (nodes : ℕ) (start : List Token) (done : List CommandParts) → done ≡ [] → HasCommands nodes start 0 done start
HasCommands-start nodes start done none =
    record {
      front = λ js. js;
      spelled = λ js new e. e;
      shallow = λ js h. h;
      ranged = λ js h. h;
      counted = λ js. omega arith;
      says = λ js. after-nil (each_of (command_at nodes) 0 (items_in js)) ∙ ap (λ d. after d (each_of (command_at nodes) 0 (items_in js))) (sym none);
    }

pub HasCommands-more : (nodes : ℕ) (start : List Token) (number : ℕ) (done done' : List CommandParts) (left new : List Token) (x : CommandParts)
    → HasCommands nodes start number done left → IsCommand nodes (number + 1) left x new → done' ≡ done ++ x ∷ [] → HasCommands nodes start (number + 1) done' new
HasCommands-more nodes start number done done' left new x h r pushed =
    let j = r.value in
    let here = r.read.shallow in
    record {
      front = λ js. h.front (json.item j js);
      spelled = λ js ts e. h.spelled (json.item j js) ts (r.read.spelled ∙ ap (λ us. json_tokens j ++ us) e ∙ sym (append_assoc (json_tokens j) (items_tokens js) ts));
      shallow = λ js k. h.shallow (json.item j js) (omega arith);
      ranged = λ js k. h.ranged (json.item j js) (λ i. r.ranged i && k i);
      counted = λ js. h.counted (json.item j js) ∙ omega arith;
      says = λ js.
          (let later = each_of (command_at nodes) (number + 1) (items_in js) in
          h.says (json.item j js) ∙ ap (after done) (ap (λ y. y >>= (λ z. later >>= (λ zs. Ok (z ∷ zs)))) r.says) ∙ after-push done x later ∙ ap (λ d. after d later) (sym pushed));
    }

within : (n : ℕ) → n ≤ MAX_COMMANDS → nat_le n MAX_COMMANDS ≡ true
within n h = grind (arith, nat_tests)

pub HasCommands-end : (nodes : ℕ) (start : List Token) (number : ℕ) (done : List CommandParts) (left new : List Token) → HasCommands nodes start number done left → number ≤ MAX_COMMANDS
    → left ≡ Token.end_array ∷ new → AreCommands nodes start done new
HasCommands-end nodes start number done left new h few e =
    let list = h.front json.no_items in
    let count : items_len (items_in list) ≤ MAX_COMMANDS = omega (arith, h.counted json.no_items) in
    let read : each_of (command_at nodes) 0 (items_in list) ≡ Ok done = h.says json.no_items ∙ ap Ok (append-nil done) in
    record {
      list = list;
      spelled = h.spelled json.no_items new e;
      shallow = h.shallow json.no_items (omega arith);
      ranged = h.ranged json.no_items refl;
      says = ap (λ b. if b then each_of (command_at nodes) 0 (items_in list) else Err (ScriptSyntax 0)) (within _ count) ∙ read;
    }
