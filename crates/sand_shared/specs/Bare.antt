-- A bare pass: its seat, and what contracts see of it.
use Rattle.std.specs.Prelude.{◌≡◌, [], length}
use Rattle.sand_shared.specs.declared.bare_pass.BarePass.TheInside.{Inside}
use Rattle.sand_shared.specs.Passes.{PassView, at_rest, IsPass}

-- its receipts are those of its seat
abbrev pub shown : Inside → PassView
shown p = record {
  table = p.seat.table_id;
  grid = p.shape;
  left = p.left;
  seen = p.seen;
  receipts = p.seat.me.0.receipts;
  rows = p.rows;
  counts = p.counts.items;
}

-- the seat has what the pass has, and nothing in hand
pub record IsBare (p : Inside) : Type 0 where
  pub me : p.seat.me ≡ (record (at_rest (shown p)) { spot = p.seat.me.0.spot; least = p.seat.me.0.least }, [])
  pub each_made : p.made ≡ length p.seat.me.0.receipts
  pub pass : IsPass (shown p)
