-- The whole text of drops at random, from its parts: at its end, or if the writer failed.
use Rattle.sand_commands.proofs.Common.{◌≡◌, ◌∙◌, ◌+◌, ◌≤◌, ℕ, List, [], ◌++◌, length, take, refl, sym, ap, subst, arith, append-nil, inl, Option, Some, Ok, Grid, sites, PileView, Avalanche, DrivenView, IsAfter, grid_of_driven, pile_of, ◌>>=◌, breaks_before, breaks_on, grows_on, StreamFault, Draw, Part, DeskFault, IsDropsFault, IsWritten, WorkEnds, AreRows, IsDropsText, drawn_sites, drops_in, with_draw, of_stream, AreAdded, BreaksInRows, end_in, head_in, rows_in}
use Rattle.std.specs.Io.KnownBytes.{Appends}
use Rattle.std.proofs.KnownBytes.{Appends-trans}
use Rattle.sand_text.specs.Blocks.{BreaksIn, GrowsBy, Waiting}
use Rattle.sand_text.specs.declared.fault.StreamFault.TheVariants as stream
use Rattle.sand_commands.proofs.Streaming.{text_in_parts}

-- the drops of a draw, made on the pile in the input
pub record AreDrawn (draw : Draw) (input : List ℕ) (first : DrivenView)
    (rows : List (ℕ × Avalanche)) (last : DrivenView) : Type 0 where
  pub start : PileView
  pub read : pile_of input ≡ Ok start
  pub settled : IsAfter start [] first
  pub dropped : AreRows draw.from first (drawn_sites (sites (grid_of_driven first)) draw) rows last
  pub end : IsAfter start (drawn_sites (sites (grid_of_driven first)) draw) last

drawn_text : (draw : Draw) (part : Part) (input : List ℕ) (first last : DrivenView) (rows : List (ℕ × Avalanche))
    → AreDrawn draw input first rows last
    → IsDropsText (Some draw) part input (drops_in part rows last.settled)
drawn_text draw part input first last rows drawn =
    let grid : grid_of_driven first ≡ drawn.start.grid = drawn.settled.settled.grid in
    let P : Grid → Type 0 = λ g. AreRows draw.from first (drawn_sites (sites g) draw) rows last in
    let Q : Grid → Type 0 = λ g. IsAfter drawn.start (drawn_sites (sites g) draw) last in
    record {
      pile = drawn.start;
      sites = drawn_sites (sites drawn.start.grid) draw;
      first = first;
      last = last;
      rows = rows;
      read = ap (λ r. r >>= with_draw draw) drawn.read;
      start = drawn.settled;
      dropped = subst P grid drawn.dropped;
      end = subst Q grid drawn.end;
      written = refl;
    }

-- a text with only its head so far
abbrev pub head_of : Part → Waiting
head_of part = record { bytes = head_in part; sent = 0 }

-- the writer failed within the text
pub drawn_breaks : (draw : Draw) (part : Part) (input : List ℕ) (first last : DrivenView)
    (rows : List (ℕ × Avalanche)) (held held' : Option (List ℕ)) (b : Waiting) (why : StreamFault)
    → AreDrawn draw input first rows last → b ≡ head_of part
    → BreaksIn held held' b (rows_in part rows ++ end_in part last.settled) why
    → WorkEnds (IsDropsText (Some draw) part input) (IsDropsFault (Some draw) input) held held' (of_stream why)
drawn_breaks draw part input first last rows held held' b why drawn is broken =
    let P : Waiting → Type 0 = λ w. BreaksIn held held' w (rows_in part rows ++ end_in part last.settled) why in
    let here : BreaksIn held held' (head_of part) (rows_in part rows ++ end_in part last.settled) why =
    subst P is broken in
    let whole = text_in_parts part rows last.settled in
    let sent : 0 + here.taken ≡ here.taken = omega arith in
    inl (record {
      sent = here.taken;
      told = ap of_stream (here.told ∙ ap stream.Write sent);
      text = drops_in part rows last.settled;
      answer = drawn_text draw part input first last rows drawn;
      within = subst (λ t. here.taken ≤ length t) whole here.within;
      written = subst (λ t. Appends held held' (take here.taken t)) whole here.written;
    })

-- the writer failed in the rows
pub rows_fail : (draw : Draw) (part : Part) (input : List ℕ) (start : PileView)
    (first : DrivenView) (held held' : Option (List ℕ)) (b : Waiting) (fault : DeskFault)
    → pile_of input ≡ Ok start → IsAfter start [] first → b ≡ head_of part
    → ((s : PileView) → IsAfter s [] first
    → BreaksInRows s part draw.from first (drawn_sites (sites (grid_of_driven first)) draw) held held' b fault)
    → WorkEnds (IsDropsText (Some draw) part input) (IsDropsFault (Some draw) input) held held' fault
rows_fail draw part input start first held held' b fault read settled is breaks =
    let cut = breaks start settled in
    let drawn : AreDrawn draw input first cut.rows cut.last =
    record { start = start; read = read; settled = settled; dropped = cut.dropped; end = cut.end } in
    let broken = breaks_before held held' b (rows_in part cut.rows) (end_in part cut.last.settled) cut.why cut.broken in
    subst (WorkEnds (IsDropsText (Some draw) part input) (IsDropsFault (Some draw) input) held held') (sym cut.told)
    (drawn_breaks draw part input first cut.last cut.rows held held' b cut.why drawn is broken)

-- the rows are in the blocks, of which some are written
pub record ArePushed (draw : Draw) (part : Part) (input : List ℕ) (held mid : Option (List ℕ)) (c : Waiting)
    : Type 0 where
  pub start : PileView
  pub first : DrivenView
  pub last : DrivenView
  pub blocks : Waiting
  pub read : pile_of input ≡ Ok start
  pub settled : IsAfter start [] first
  pub head : blocks ≡ head_of part
  pub added : AreAdded part draw.from first (drawn_sites (sites (grid_of_driven first)) draw) last held mid blocks c
  pub after : (s : PileView) → IsAfter s [] first → IsAfter s (drawn_sites (sites (grid_of_driven first)) draw) last

module _ (draw : Draw) (part : Part) (input : List ℕ) (held mid : Option (List ℕ)) (c : Waiting)
    (p : ArePushed draw part input held mid c) where
  drawn : AreDrawn draw input p.first p.added.rows p.last
  drawn = record {
    start = p.start;
    read = p.read;
    settled = p.settled;
    dropped = p.added.dropped;
    end = p.after p.start p.settled;
  }

  -- the writer failed after the rows
  pub end_fails : (held' : Option (List ℕ)) (why : StreamFault) → BreaksIn mid held' c (end_in part p.last.settled) why
      → WorkEnds (IsDropsText (Some draw) part input) (IsDropsFault (Some draw) input) held held' (of_stream why)
  end_fails held' why broken =
      drawn_breaks draw part input p.first p.last p.added.rows held held' p.blocks why drawn p.head
      (breaks_on held mid held' p.blocks c (rows_in part p.added.rows) (end_in part p.last.settled) why
      p.added.grown broken)

  module _ (more : Option (List ℕ)) (d : Waiting) (grown : GrowsBy mid more c d (end_in part p.last.settled)) where
    abbrev text : List ℕ
    text = rows_in part p.added.rows ++ end_in part p.last.settled

    whole : GrowsBy held more p.blocks d text
    whole =
        grows_on held mid more p.blocks c d (rows_in part p.added.rows) (end_in part p.last.settled) p.added.grown grown

    -- the writer failed in the last block
    pub last_fails : (held' : Option (List ℕ)) (why : StreamFault) → BreaksIn more held' d [] why
        → WorkEnds (IsDropsText (Some draw) part input) (IsDropsFault (Some draw) input) held held' (of_stream why)
    last_fails held' why broken =
        let P : List ℕ → Type 0 = λ t. BreaksIn held held' p.blocks t why in
        drawn_breaks draw part input p.first p.last p.added.rows held held' p.blocks why drawn p.head
        (subst P (append-nil text) (breaks_on held more held' p.blocks d text [] why whole broken))

    pub all_taken : (held' : Option (List ℕ)) → Appends more held' d.bytes
        → IsWritten (IsDropsText (Some draw) part input) held held'
    all_taken held' rest =
        let all : whole.gone ++ d.bytes ≡ drops_in part p.added.rows p.last.settled =
        sym whole.all ∙ ap (λ (w : Waiting). w.bytes ++ text) p.head ∙ text_in_parts part p.added.rows p.last.settled in
        record {
          text = drops_in part p.added.rows p.last.settled;
          answer = drawn_text draw part input p.first p.last p.added.rows drawn;
          written =
              subst (Appends held held') all (Appends-trans held more held' whole.gone d.bytes whole.written rest);
        }
