-- What a list of holdings tells of the dots that are held.
use Rattle.std.proofs.Common.{◌↔◌, ℕ, ◌&&◌, List, sym, ap, ◌∙◌, subst, IsTrue}
use Rattle.std.specs.List.{Contains}
use Rattle.std.proofs.lemmas.Bool.{and_parts}
use Rattle.std.proofs.lemmas.List.Elements.{All-contains}
use Rattle.dy_dots.specs.Dots.{same_dot}
use Rattle.dy_dots.specs.declared.dots.Dot.{Dot}
use Rattle.dy_dots.proofs.SameDots.{same_dot_is}
use Rattle.dy_siblings.specs.Siblings.{IsSameRow, same_key}
use Rattle.dy_siblings.proofs.Members.{any_gives}
use Rattle.dy_siblings.proofs.SameKeys.{same_key_is}
use Rattle.dy_core.specs.Worlds.{Layout, World, row_at}
use Rattle.dy_core.specs.Logs.{world_after, IsLegal}
use Rattle.dy_core.specs.Listings.{ListsHoldings}
use Rattle.dy_core.specs.declared.holdings.Holding.{Holding}
use Rattle.dy_core.specs.declared.steps.Step.{Step}
use Rattle.dy_core.proofs.OverLogs.{log_sound}
use Rattle.dy_core.proofs.Standing.{stands_from, stands_in}
use Rattle.dy_book.specs.Audits.{TellsHeld}

module _ (layout : Layout) (steps : List Step) (legal : IsLegal layout steps) (held : List Holding)
    (lists : ListsHoldings (world_after steps) held)
    (holder home : ℕ) (key : List ℕ) (d : Dot) where
  abbrev w : World
  w = world_after steps

  told_held : TellsHeld held holder home key d → IsTrue (w.holdings holder home key d)
  told_held t =
      let h = t.holding in
      let same = All-contains (λ h. IsSameRow h.row.versions (row_at w h.holder h.home h.row.key))
      held h lists.each t.in_list in
      let s = stands_from w h.holder h.home h.row.key t.version ((same t.version).0 t.in_row) in
      (λ i. w.holdings (sym t.holder_is i) (sym t.home_is i) (sym t.key_is i) (sym t.dot_is i))
      ∙ s.is_held

  held_told : IsTrue (w.holdings holder home key d) → TellsHeld held holder home key d
  held_told is =
      let f = any_gives (λ v. same_key v.key key && same_dot v.dot d) w.versions
      ((log_sound layout steps legal).held_sound holder home key d is).1 in
      let v = f.item in
      let parts = and_parts (same_key v.key key) (same_dot v.dot d) f.passes in
      let dot_is = same_dot_is v.dot d parts.1 in
      let there = stands_in w holder home key v
      (record {
        made = f.in_list;
        key_is = same_key_is v.key key parts.0;
        is_held = ap (w.holdings holder home key) dot_is ∙ is;
      }) in
      let e = lists.every holder home key v there in
      let h = e.0 in
      let same = All-contains (λ h. IsSameRow h.row.versions (row_at w h.holder h.home h.row.key))
      held h lists.each e.1 in
      record {
        holding = h;
        in_list = e.1;
        holder_is = e.2;
        home_is = e.3;
        key_is = e.4;
        version = v;
        in_row = (same v).1 (subst (λ vs. Contains vs v)
            (λ i. row_at w (sym e.2 i) (sym e.3 i) (sym e.4 i)) there);
        dot_is = dot_is;
      }

  pub told_as_held : TellsHeld held holder home key d ↔ IsTrue (w.holdings holder home key d)
  told_as_held = (told_held, held_told)
