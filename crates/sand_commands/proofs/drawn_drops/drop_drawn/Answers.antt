use Rattle.sand_commands.proofs.Common.{◌≡◌, ◌∙◌, ◌+◌, ◌-◌, ◌<◌, ◌++◌, ◌∷◌, [], ℕ, List, All, drop, length, refl, sym, ap, arith, subst, append_assoc, err_from_is_err_and, Grid, sites, most_grains_on, grid_of_driven, IsAfter, Reading, site_at, stream_sites, of_stream, AreAdded, BreaksInRows}
use Rattle.sand_commands.proofs.DrawnSites.{drawn_inside, drawn_more, drawn_none, drawn_split, length-drawn}
use Rattle.sand_commands.proofs.Streaming.{broke_in_row, none_added, row_added}
use Rattle.sand_commands.proofs.drawn_drops.drop_drawn.Goals as goal

pub loop-read-init : goal.loop-read-init
loop-read-init g c =
    let n : ℕ = sites (grid_of_driven c.args.pile.now) in
    let from : ℕ = c.args.draw.from in
    let none = drawn_none n c.args.draw.seed c.args.draw.stream from in
    let shape = c.shape.ensures.value in
    let place : from ≡ from + 0 = omega arith in
    record {
      rows = none_added c.args.part from c.args.pile.now
          (drop from (stream_sites n c.args.draw.seed c.args.draw.stream (from + 0)))
          (g.W.Write.contents c.args.writer.now) c.args.blocks.now none;
      after = λ start first. subst (λ xs. IsAfter start xs c.args.pile.now) (sym none) first;
      reader =
          c.go_to.ensures ∙ ap (λ (r : Reading). record r { read = from }) c.new-reader.ensures
          ∙ ap (λ (h : Grid).
          record { sites = sites h; seed = c.args.draw.seed; stream = c.args.draw.stream; read = from }) shape
          ∙ ap (λ (k : ℕ). record { sites = n; seed = c.args.draw.seed; stream = c.args.draw.stream; read = k }) place;
      grid = refl;
      grains = omega arith;
    }

pub returns-in_err-push_row-clause-fault : goal.returns-in_err-push_row-clause-fault
returns-in_err-push_row-clause-fault g c =
    let p = err_from_is_err_and c.from_residual-in_err-push_row.result c.from_residual-in_err-push_row.ensures.1 in
    let n : ℕ = sites (grid_of_driven c.args.pile.now) in
    let seed : ℕ = c.args.draw.seed in
    let stream : ℕ = c.args.draw.stream in
    let from : ℕ = c.args.draw.from in
    let read : ℕ = c.loop-read.read in
    let count : ℕ = c.args.draw.count in
    let before : List ℕ = drop from (stream_sites n seed stream (from + read)) in
    let later : List ℕ = drop (from + (read + 1)) (stream_sites n seed stream (from + count)) in
    let site_is : c.next_site.result ≡ site_at n seed stream (from + read) = c.next_site.ensures.site
    ∙ ap (λ (r : Reading). site_at r.sites r.seed r.stream r.read) c.loop-read.invariant.reader in
    let long : length before ≡ read = length-drawn n seed stream from read (from + read) refl in
    let rest : from + (read + 1) + (count - (read + 1)) ≡ from + count = omega (arith, c.loop-read-test.true) in
    let left : length later ≡ count - (read + 1) =
    length-drawn n seed stream (from + (read + 1)) (count - (read + 1)) (from + count) rest in
    let whole : drop from (stream_sites n seed stream (from + count)) ≡ before ++ c.next_site.result ∷ later =
    drawn_split n seed stream from (from + (read + 1)) (count - (read + 1)) (from + count) (omega arith) rest
    ∙ ap (λ (l : List ℕ). l ++ later) (drawn_more n seed stream from read c.next_site.result site_is)
    ∙ append_assoc before (c.next_site.result ∷ []) later in
    let number : from + read ≡ from + length before = omega (arith, long) in
    let there : c.loop-read.reader.sites ≡ n = ap (λ (r : Reading). r.sites) c.loop-read.invariant.reader in
    let some : 0 < n = omega (arith, c.next_site.ensures.inside, there) in
    let broken = rw c.from.ensures at c.in_err-push_row.ensures.err in
    rw (p.1, p.2)
    (λ start first.
    let inside : All (λ j. j < sites start.grid) later = subst (λ (h : Grid). All (λ j. j < sites h) later)
    first.settled.grid (drawn_inside n seed stream some (from + (read + 1)) (from + count)) in
    subst (λ xs. BreaksInRows start c.args.part from c.args.pile.now xs (g.W.Write.contents c.args.writer.now)
    (g.W.Write.contents c.push_row.new.writer) c.args.blocks.now (of_stream c.in_err-push_row.field-0.0)) (sym
    whole)
    (broke_in_row start c.args.part from (from + read) c.args.pile.now c.loop-read.pile
    c.drop_at.new.self before c.next_site.result later c.in_ok-avalanche.avalanche
    (g.W.Write.contents c.args.writer.now) (g.W.Write.contents c.loop-read.writer)
    (g.W.Write.contents c.push_row.new.writer) c.args.blocks.now c.loop-read.blocks _
    number c.loop-read.invariant.rows (c.loop-read.invariant.after start first)
    c.in_ok-avalanche.ensures.drops c.in_ok-avalanche.ensures.avalanche broken inside
    (let grains = first.grains in
    let room = c.requires.room in
    let limit = ap most_grains_on first.settled.grid in
    omega (arith, grains, room, limit, long, left, c.loop-read-test.true))))

pub loop-read-preserved : goal.loop-read-preserved
loop-read-preserved g c =
    let n : ℕ = sites (grid_of_driven c.args.pile.now) in
    let seed : ℕ = c.args.draw.seed in
    let stream : ℕ = c.args.draw.stream in
    let from : ℕ = c.args.draw.from in
    let read : ℕ = c.loop-read.read in
    let before : List ℕ = drop from (stream_sites n seed stream (from + read)) in
    let site_is : c.next_site.result ≡ site_at n seed stream (from + read) = c.next_site.ensures.site
    ∙ ap (λ (r : Reading). site_at r.sites r.seed r.stream r.read) c.loop-read.invariant.reader in
    let more = drawn_more n seed stream from read c.next_site.result site_is in
    let long : length before ≡ read = length-drawn n seed stream from read (from + read) refl in
    let number : from + read ≡ from + length before = omega (arith, long) in
    let pushed = rw c.from.ensures at c.in_ok-push_row.ensures.ok in
    let next : from + read + 1 ≡ from + (read + 1) = omega arith in
    record {
      rows = subst (λ xs.
          AreAdded c.args.part from c.args.pile.now xs c.drop_at.new.self (g.W.Write.contents c.args.writer.now)
          (g.W.Write.contents c.push_row.new.writer) c.args.blocks.now c.push_row.new.blocks) (sym
          more)
          (row_added c.args.part from (from + read) c.args.pile.now c.loop-read.pile
          c.drop_at.new.self before c.next_site.result c.in_ok-avalanche.avalanche
          (g.W.Write.contents c.args.writer.now) (g.W.Write.contents c.loop-read.writer)
          (g.W.Write.contents c.push_row.new.writer) c.args.blocks.now c.loop-read.blocks c.push_row.new.blocks
          number c.loop-read.invariant.rows c.in_ok-avalanche.ensures.drops c.in_ok-avalanche.ensures.avalanche pushed);
      after = λ start first. subst (λ xs. IsAfter start xs c.drop_at.new.self) (sym more)
          (c.in_ok-avalanche.ensures.after start before (c.loop-read.invariant.after start first));
      reader =
          c.next_site.ensures.read ∙ ap (λ (r : Reading). record r { read = r.read + 1 }) c.loop-read.invariant.reader
          ∙ ap (λ (k : ℕ). record { sites = n; seed = seed; stream = stream; read = k }) next;
      grid = c.in_ok-avalanche.ensures.drops.settled.grid ∙ c.loop-read.invariant.grid;
      grains = omega (arith, c.in_ok-avalanche.ensures.drops.grains, c.loop-read.invariant.grains);
    }

pub returns-clause-after : goal.returns-clause-after
returns-clause-after g c = λ start first.
    let sites_to : ℕ → List ℕ = λ k. drop c.args.draw.from
    (stream_sites (sites (grid_of_driven c.args.pile.now)) c.args.draw.seed c.args.draw.stream (c.args.draw.from + k)) in
    let all : c.loop-read.read ≡ c.args.draw.count = omega (arith, c.loop-read-test.false, c.loop-read.auto.read-end) in
    subst (λ k. IsAfter start (sites_to k) c.loop-read.pile) all (c.loop-read.invariant.after start first)
