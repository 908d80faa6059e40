use Rattle.std.proofs.Common.{◌≡◌, length, map, None, Some, IsSome, refl, sym, ap, ◌∙◌, subst}
use Rattle.std.specs.Option.{option_copied_mut}
use Rattle.std.specs.Vec.{with_items}
use Rattle.std.proofs.lemmas.List.{length-map, with_items_is}
use Rattle.dy_core.specs.Steps.{after_release}
use Rattle.dy_index.specs.Indexes.{IsIndex, part_at}
use Rattle.dy_index.specs.declared.parts.KeyPart.{KeyPart}
use Rattle.dy_index.specs.inside.Held.{released}
use Rattle.dy_index.proofs.Releasing.{release_written, release_none}
use Rattle.dy_index.proofs.releases.give_up.Goals as goal

-- the part is written back without the dot
pub returns-in-Some : goal.returns-in-Some
returns-in-Some c = λ w index.
    let es = c.args.keys.now.entries in
    let f = released c.args.holder c.args.home c.args.key.now c.args.dot in
    let there : part_at es c.args.key.now ≡ Some c.in-Some.part.now =
    sym c.get_mut.ensures.value ∙ ap option_copied_mut c.in-Some.is in
    let present = subst IsSome (sym (ap option_copied_mut c.in-Some.is) ∙ c.get_mut.ensures.value)
    refl in
    let given : c.give_up.new.places ≡ map f c.in-Some.part.now.places.items =
    c.give_up.ensures ∙ ap (map f) c.as_mut_slice.ensures.value in
    let whole = with_items_is c.in-Some.part.now.places c.give_up.new.places
    (ap length given ∙ (length-map c.in-Some.part.now.places.items f
    ∙ sym c.in-Some.part.now.places.ok.0)) in
    let new : KeyPart = record {
      made = c.in-Some.part.now.made;
      places = with_items c.in-Some.part.now.places c.give_up.new.places;
    } in
    release_written c.args.holder c.args.home c.args.key.now c.args.dot w es
    (c.get_mut.follows.lender new).entries c.in-Some.part.now new there refl (whole ∙ given)
    ((c.get_mut.follows.holds new).3 present).0 index

-- nothing is known of the key
pub returns-in-None : goal.returns-in-None
returns-in-None c = λ w index.
    let es = c.args.keys.now.entries in
    let none : part_at es c.args.key.now ≡ None =
    sym c.get_mut.ensures.value ∙ ap option_copied_mut c.in-None.is in
    subst (λ m. IsIndex (after_release w c.args.holder c.args.home c.args.key.now c.args.dot)
    m.entries) (sym c.get_mut.follows.holds-at-none)
    (release_none c.args.holder c.args.home c.args.key.now c.args.dot w es none index)
