-- The members of a command, each at the place of its name, and those of an object's data.
use Rattle.std.proofs.Common.{◌≡◌, ℕ, zero, suc, ◌+◌, ◌<◌, List, [], ◌∷◌, ◌++◌, length, get_or, set, drop, Bool, true, false, true≢false, ◌&&◌, ◌||◌, is_none, is_some, nat_lt, if◌then◌else◌, Option, Some, None, option_map, option_and_then, Bor, Ordering, Less, Equal, Greater, nat_cmp, refl, sym, ap, ◌∙◌, subst, arith, add-one, append_assoc, length-append, drop-cons}
use Rattle.std.proofs.lemmas.Bool.{and_parts}
use Rattle.std.proofs.lemmas.Cmp.{nat_list_cmp_total, tied_itself}
use Rattle.std.specs.Cmp.Lexicographic.{slice_cmp}
use Rattle.std.specs.Ordering.{ordering_reverse}
use Rattle.json.specs.Json as json
use Rattle.json.specs.Token.{Token}
use Rattle.json.specs.Tree.{json_tokens, members_tokens, members_depth}
use Rattle.serde_json.specs.Data.{Num, unsigned, negative, float, Data, null, boolean, number, string, array, object, Members, no_members, member, put}
use Rattle.serde_json.specs.Find.{get_member, as_str, as_u64}
use Rattle.serde_json.specs.Read.{number_of}
use Rattle.dy_script.specs.Members.{need, optional, seen, knows, as_whole, as_small}
use Rattle.dy_script.specs.inside.Documents.{number_data, members_in, members_in_range}
use Rattle.dy_script.specs.inside.Fields.{all_names, name_at, field_data, text_in, whole_in, small_in, Tells, filled, IsField, AreTold}
use Rattle.dy_script.specs.inside.Streams.{IsRead}
use Rattle.dy_script.specs.declared.fields.Field.{Field}
use Rattle.dy_script.specs.declared.fields.Field.TheVariants as field
use Rattle.dy_script.proofs.KnownKeys.{is_known}

-- ---- what a field says

-- a field of the data says what the data does
pub data_tells : (r : Option Field) (o : Option Data) → option_map field_data r ≡ o → Tells r o
data_tells None None e = tt
data_tells None (Some d) e = cc
data_tells (Some f) None e = cc
data_tells (Some (field.Text s)) (Some d) e =
    let same : field_data (field.Text s) ≡ d = cc in
    (ap as_str (sym same), ap as_whole (sym same))
data_tells (Some (field.Whole n)) (Some d) e =
    let same : field_data (field.Whole n) ≡ d = cc in
    (ap as_str (sym same), ap as_whole (sym same))
data_tells (Some field.Other) (Some d) e =
    let same : field_data field.Other ≡ d = cc in
    (ap as_str (sym same), ap as_whole (sym same))

-- what was found in a tree says what its data does
pub found_tells : (f : Field) (d : Data) (o : Option Data) → Some d ≡ o → text_in f ≡ as_str d → whole_in f ≡ as_whole d → Tells (Some f) o
found_tells f d o e t w = subst (Tells (Some f)) e (sym t, sym w)

pub missing_tells : (o : Option Data) → None ≡ o → Tells None o
missing_tells o e = subst (Tells None) e tt

pub text_told : (r : Option Field) (o : Option Data) → Tells r o → option_and_then text_in r ≡ option_and_then as_str o
text_told None None h = refl
text_told None (Some d) h = absurd h
text_told (Some f) None h = absurd h
text_told (Some f) (Some d) h = sym h.0

pub whole_told : (r : Option Field) (o : Option Data) → Tells r o → option_and_then whole_in r ≡ option_and_then as_whole o
whole_told None None h = refl
whole_told None (Some d) h = absurd h
whole_told (Some f) None h = absurd h
whole_told (Some f) (Some d) h = sym h.1

pub optional_text_told : (k : ℕ) (r : Option Field) (o : Option Data) → Tells r o → optional k text_in r ≡ optional k as_str o
optional_text_told k None None h = refl
optional_text_told k None (Some d) h = absurd h
optional_text_told k (Some f) None h = absurd h
optional_text_told k (Some f) (Some d) h = ap (λ o. seen Some (need k o)) (sym h.0)

pub optional_small_told : (k : ℕ) (r : Option Field) (o : Option Data) → Tells r o → optional k small_in r ≡ optional k as_small o
optional_small_told k None None h = refl
optional_small_told k None (Some d) h = absurd h
optional_small_told k (Some f) None h = absurd h
optional_small_told k (Some f) (Some d) h = ap (λ o. seen Some (need k (option_and_then (λ n. if nat_lt n 256 then Some n else None) o))) (sym h.1)

-- a text is no number
pub text_alone : (d : Data) (s : List ℕ) → as_str d ≡ Some s → None ≡ as_whole d
text_alone null s h = cc
text_alone (boolean b) s h = cc
text_alone (number n) s h = cc
text_alone (string t) s h = refl
text_alone (array ds) s h = cc
text_alone (object ms) s h = cc

-- ---- the token of a field

pub text_field : (s : Bor (List ℕ)) (old new : List Token) → old ≡ Token.string s.now ∷ new → IsField old (field.Text s) new
text_field s old new e = record { value = json.string s.now; spelled = e; flat = refl; ranged = refl; says = refl }

whole_num : (n : Num) (w : ℕ) → as_u64 n ≡ Some w → n ≡ unsigned w
whole_num (unsigned m) w h = let same : m ≡ w = cc in ap unsigned same
whole_num (negative z) w h = cc
whole_num (float x) w h = cc

pub whole_field : (s : List ℕ) (n : Num) (w : ℕ) (old new : List Token) → old ≡ Token.number s ∷ new → number_of s ≡ Some n → as_u64 n ≡ Some w → IsField old (field.Whole w) new
whole_field s n w old new e h k =
    record {
      value = json.number s;
      spelled = e;
      flat = refl;
      ranged = ap is_some h;
      says = ap number_data h ∙ ap number (whole_num n w k);
    }

-- ---- the names rise

abbrev is_below : Ordering → Bool
is_below Less = true
is_below Equal = false
is_below Greater = false

less_of : (o : Ordering) → is_below o ≡ true → o ≡ Less
less_of Less h = refl
less_of Equal h = absurd (true≢false (sym h))
less_of Greater h = absurd (true≢false (sym h))

abbrev below_all : List ℕ → List (List ℕ) → Bool
below_all n [] = true
below_all n (m ∷ ms) = is_below (slice_cmp nat_cmp n m) && below_all n ms

abbrev rise : List (List ℕ) → Bool
rise [] = true
rise (n ∷ ns) = below_all n ns && rise ns

below_each : (n : List ℕ) (ns : List (List ℕ)) (i : ℕ) → below_all n ns ≡ true → i < length ns → slice_cmp nat_cmp (get_or ns i []) n ≡ Greater
below_each n [] i h k = absurd (omega arith)
below_each n (m ∷ ns) zero h k =
    nat_list_cmp_total.antisymm m n ∙ ap ordering_reverse (less_of (slice_cmp nat_cmp n m) (and_parts (is_below (slice_cmp nat_cmp n m)) (below_all n ns) h).0)
below_each n (m ∷ ns) (suc i) h k = below_each n ns i (and_parts (is_below (slice_cmp nat_cmp n m)) (below_all n ns) h).1 (omega arith)

-- ---- fields at their places

-- a name below all others goes first
put_first : (n : List ℕ) (d : Data) (ns : List (List ℕ)) (fs : List (Option Field)) → below_all n ns ≡ true → put n d (filled ns fs) ≡ member n d (filled ns fs)
put_first n d [] fs h = refl
put_first n d (m ∷ ns) [] h = refl
put_first n d (m ∷ ns) (None ∷ fs) h = put_first n d ns fs (and_parts (is_below (slice_cmp nat_cmp n m)) (below_all n ns) h).1
put_first n d (m ∷ ns) (Some f ∷ fs) h = rw (less_of (slice_cmp nat_cmp n m) (and_parts (is_below (slice_cmp nat_cmp n m)) (below_all n ns) h).0) refl

put_within : (ns : List (List ℕ)) (fs : List (Option Field)) (i : ℕ) (f : Field) → rise ns ≡ true → i < length ns → i < length fs
    → put (get_or ns i []) (field_data f) (filled ns fs) ≡ filled ns (set fs i (Some f))
put_within [] fs i f h k l = absurd (omega arith)
put_within (n ∷ ns) [] i f h k l = absurd (omega arith)
put_within (n ∷ ns) (None ∷ fs) zero f h k l = put_first n (field_data f) ns fs (and_parts (below_all n ns) (rise ns) h).0
put_within (n ∷ ns) (Some g ∷ fs) zero f h k l = rw (tied_itself nat_list_cmp_total n) refl
put_within (n ∷ ns) (None ∷ fs) (suc i) f h k l = put_within ns fs i f (and_parts (below_all n ns) (rise ns) h).1 (omega arith) (omega arith)
put_within (n ∷ ns) (Some g ∷ fs) (suc i) f h k l =
    rw (below_each n ns i (and_parts (below_all n ns) (rise ns) h).0 (omega arith))
    (ap (member n (field_data g)) (put_within ns fs i f (and_parts (below_all n ns) (rise ns) h).1 (omega arith) (omega arith)))

-- a field goes into its place
pub put_told : (fs : List (Option Field)) (i : ℕ) (f : Field) → i < length all_names → length fs ≡ length all_names → put (name_at i) (field_data f) (filled all_names fs) ≡ filled all_names (set fs i (Some f))
put_told fs i f h l = put_within all_names fs i f refl h (omega arith)

missing : (n : List ℕ) (ns : List (List ℕ)) (fs : List (Option Field)) → below_all n ns ≡ true → get_member n (filled ns fs) ≡ None
missing n [] fs h = refl
missing n (m ∷ ns) [] h = refl
missing n (m ∷ ns) (None ∷ fs) h = missing n ns fs (and_parts (is_below (slice_cmp nat_cmp n m)) (below_all n ns) h).1
missing n (m ∷ ns) (Some f ∷ fs) h =
    rw (less_of (slice_cmp nat_cmp n m) (and_parts (is_below (slice_cmp nat_cmp n m)) (below_all n ns) h).0)
    (missing n ns fs (and_parts (is_below (slice_cmp nat_cmp n m)) (below_all n ns) h).1)

found_within : (ns : List (List ℕ)) (fs : List (Option Field)) (i : ℕ) → rise ns ≡ true → i < length ns → get_member (get_or ns i []) (filled ns fs) ≡ option_map field_data (get_or fs i None)
found_within [] fs i h k = absurd (omega arith)
found_within (n ∷ ns) [] i h k = refl
found_within (n ∷ ns) (None ∷ fs) zero h k = missing n ns fs (and_parts (below_all n ns) (rise ns) h).0
found_within (n ∷ ns) (Some g ∷ fs) zero h k = rw (tied_itself nat_list_cmp_total n) refl
found_within (n ∷ ns) (None ∷ fs) (suc i) h k = found_within ns fs i (and_parts (below_all n ns) (rise ns) h).1 (omega arith)
found_within (n ∷ ns) (Some g ∷ fs) (suc i) h k =
    rw (below_each n ns i (and_parts (below_all n ns) (rise ns) h).0 (omega arith))
    (found_within ns fs i (and_parts (below_all n ns) (rise ns) h).1 (omega arith))

-- a field is found at its place
pub found_told : (fs : List (Option Field)) (i : ℕ) → i < length all_names → get_member (name_at i) (filled all_names fs) ≡ option_map field_data (get_or fs i None)
found_told fs i h = found_within all_names fs i refl h

-- ---- the names that are there

-- the names from place i on are known where all are
pub record HasKnown (known : List (List ℕ)) (fs : List (Option Field)) (i : ℕ) : Type 0 where
  pub so_far : knows known (filled all_names fs) ≡ knows known (filled (drop i all_names) (drop i fs))

pub HasKnown-start : (known : List (List ℕ)) (fs : List (Option Field)) → HasKnown known fs 0
HasKnown-start known fs = record { so_far = refl }

one_known : (known : List (List ℕ)) (n : List ℕ) (f : Option Field) (ns : List (List ℕ)) (fs : List (Option Field))
    → knows known (filled (n ∷ ns) (f ∷ fs)) ≡ ((is_none f || is_known known n) && knows known (filled ns fs))
one_known known n None ns fs = refl
one_known known n (Some f) ns fs = refl

known_step : (known : List (List ℕ)) (fs : List (Option Field)) (i : ℕ) → i < length all_names → length fs ≡ length all_names
    → knows known (filled (drop i all_names) (drop i fs)) ≡ ((is_none (get_or fs i None) || is_known known (name_at i)) && knows known (filled (drop (i + 1) all_names) (drop (i + 1) fs)))
known_step known fs i h l =
    let within : i < length fs = omega arith in
    ap (λ ns. knows known (filled ns (drop i fs))) (drop-cons all_names i [] h)
    ∙ ap (λ gs. knows known (filled (name_at i ∷ drop (suc i) all_names) gs)) (drop-cons fs i None within)
    ∙ one_known known (name_at i) (get_or fs i None) (drop (suc i) all_names) (drop (suc i) fs)
    ∙ rw add-one refl

pub HasKnown-more : (known : List (List ℕ)) (fs : List (Option Field)) (i : ℕ) → i < length all_names → length fs ≡ length all_names → HasKnown known fs i
    → (is_none (get_or fs i None) || is_known known (name_at i)) ≡ true → HasKnown known fs (i + 1)
HasKnown-more known fs i h l r e =
    record { so_far = r.so_far ∙ known_step known fs i h l ∙ ap (λ b. b && knows known (filled (drop (i + 1) all_names) (drop (i + 1) fs))) e }

pub HasKnown-stop : (known : List (List ℕ)) (fs : List (Option Field)) (i : ℕ) → i < length all_names → length fs ≡ length all_names → HasKnown known fs i
    → (is_none (get_or fs i None) || is_known known (name_at i)) ≡ false → knows known (filled all_names fs) ≡ false
HasKnown-stop known fs i h l r e =
    r.so_far ∙ known_step known fs i h l ∙ ap (λ b. b && knows known (filled (drop (i + 1) all_names) (drop (i + 1) fs))) e

pub HasKnown-end : (known : List (List ℕ)) (fs : List (Option Field)) (i : ℕ) → i ≡ length all_names → HasKnown known fs i → knows known (filled all_names fs) ≡ true
HasKnown-end known fs i e r = r.so_far ∙ ap (λ k. knows known (filled (drop k all_names) (drop k fs))) e

-- ---- the tokens of a command

-- the members that were read stand in front of those that are left
pub record HasFields (start : List Token) (found : Members) (left : List Token) : Type 0 where
  pub front : json.Members → json.Members
  pub spelled : (ms : json.Members) (new : List Token) → left ≡ members_tokens ms ++ new → start ≡ members_tokens (front ms) ++ new
  pub flat : (ms : json.Members) → members_depth ms ≡ 0 → members_depth (front ms) ≡ 0
  pub ranged : (ms : json.Members) → members_in_range ms ≡ true → members_in_range (front ms) ≡ true
  pub says : (ms : json.Members) → members_in (front ms) no_members ≡ members_in ms found

pub HasFields-start : (start : List Token) (found : Members) → found ≡ no_members → HasFields start found start
HasFields-start start found none =
    record {
      front = λ ms. ms;
      spelled = λ ms new e. e;
      flat = λ ms h. h;
      ranged = λ ms h. h;
      says = λ ms. ap (members_in ms) (sym none);
    }

pub HasFields-more : (start : List Token) (found found' : Members) (k : List ℕ) (f : Field) (left at new : List Token)
    → HasFields start found left → left ≡ Token.key k ∷ at → IsField at f new → found' ≡ put k (field_data f) found → HasFields start found' new
HasFields-more start found found' k f left at new h e r pushed =
    let j = r.value in
    let here = r.flat in
    record {
      front = λ ms. h.front (json.member k j ms);
      spelled = λ ms ts i.
          h.spelled (json.member k j ms) ts
          (e ∙ ap (λ us. Token.key k ∷ us) (r.spelled ∙ ap (λ us. json_tokens j ++ us) i ∙ sym (append_assoc (json_tokens j) (members_tokens ms) ts)));
      flat = λ ms i. h.flat (json.member k j ms) (omega arith);
      ranged = λ ms i. h.ranged (json.member k j ms) (λ n. r.ranged n && i n);
      says = λ ms. h.says (json.member k j ms) ∙ ap (λ d. members_in ms (put k d found)) r.says ∙ ap (members_in ms) (sym pushed);
    }

pub HasFields-end : (old start : List Token) (found : Members) (left new : List Token) → old ≡ Token.begin_object ∷ start → HasFields start found left
    → left ≡ Token.end_object ∷ new → AreTold old found new
HasFields-end old start found left new o h e =
    record {
      members = h.front json.no_members;
      spelled = o ∙ ap (λ ts. Token.begin_object ∷ ts) (h.spelled json.no_members new e);
      flat = h.flat json.no_members refl;
      ranged = h.ranged json.no_members refl;
      says = h.says json.no_members;
    }

-- the object of the members was read
pub told_read : (old new : List Token) (told : Members) (r : AreTold old told new) → IsRead 125 old (json.object r.members) new
told_read old new told r =
    let shallow = r.flat in
    let counted = ap length r.spelled ∙ ap suc (length-append (members_tokens r.members) new) in
    record { spelled = r.spelled; shallow = omega arith; shorter = omega arith }
