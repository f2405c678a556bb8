use Rattle.sand_commands.proofs.Common.{◌∙◌, ◌<◌, ℕ, All, sym, subst, IfOk-weaker, Grid, sites, AreNoted, AreRows}
use Rattle.sand_commands.proofs.DropSites.{drops_inside}
use Rattle.sand_commands.proofs.Rows.{noted_text}
use Rattle.sand_commands.proofs.listed_drops.listed_drops.Goals as goal

pub drop_all-noted-requires : goal.drop_all-noted-requires
drop_all-noted-requires c =
    let inside = drops_inside c.args.input.now c.in_ok-start.start c.in_ok-start.drops.items c.in_ok-start.ensures in
    let P : Grid → Type 0 = λ g. All (λ j. j < sites g) c.in_ok-start.drops.items in
    rw c.as_slice.ensures.value (subst P (sym c.in_ok-pile.ensures.settled.settled.grid) inside)

pub returns-clause-text : goal.returns-clause-text
returns-clause-text c =
    let noted : AreNoted c.is_pile.result c.in_ok-pile.pile
    c.in_ok-start.drops.items c.in_ok-rows.rows.items c.drop_all-noted.new.pile =
    rw c.as_slice.ensures.value at c.in_ok-rows.ensures.rows in
    let P : ℕ → Type 0 = λ n. AreRows n c.in_ok-pile.pile c.in_ok-start.drops.items noted.0 c.drop_all-noted.new.pile in
    IfOk-weaker c.part_text.result _ _
    (λ text written. record {
      pile = c.in_ok-start.start;
      sites = c.in_ok-start.drops.items;
      first = c.in_ok-pile.pile;
      last = c.drop_all-noted.new.pile;
      rows = noted.0;
      read = c.in_ok-start.ensures;
      start = c.in_ok-pile.ensures.settled;
      dropped = subst P c.in_ok-pile.ensures.settled.number noted.1;
      end =
          rw c.as_slice.ensures.value at (c.in_ok-rows.ensures.after c.in_ok-start.start c.in_ok-pile.ensures.settled);
      written = (rw (c.as_slice-2.ensures.value, c.finish-last.ensures.value) at written) ∙ noted_text c.args.part
          c.in_ok-rows.rows.items noted.0 c.drop_all-noted.new.pile.settled (rw c.is_pile.ensures at noted.2);
    })
    c.part_text.ensures.text
