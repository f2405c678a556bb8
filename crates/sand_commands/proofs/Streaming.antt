-- The text of drops at random, as a row is added or the writer fails in one.
use Rattle.sand_commands.proofs.Common.{◌≡◌, ◌∙◌, ◌+◌, ◌<◌, ◌≤◌, ℕ, suc, List, [], ◌∷◌, ◌++◌, All, codes, length, sum, refl, sym, ap, subst, arith, append_assoc, append-nil, Option, length-append, sites, PileView, most_grains_on, Avalanche, IsAvalanche, SettledView, DrivenView, IsAfter, Drops, grid_of_driven, topplings_between, after_drop, breaks_within, grows_on, stays, StreamFault, Part, AreRows, drops_in, of_stream, AreAdded, BreaksInRows, end_in, head_in, pile_and_sums, row_in, rows_in}
use Rattle.sand_text.specs.Blocks.{BreaksIn, GrowsBy, Waiting}
use Rattle.sand_text.specs.Tables.{entries_text, entry_text, table_head}
use Rattle.sand_text.specs.Texts.{sum_line, text_of}
use Rattle.sand_cli.specs.declared.task.Part.TheVariants as parts
use Rattle.sand_commands.proofs.DropsExist.{drops_exist}
use Rattle.sand_commands.proofs.Rows.{no_drops, rows_first, rows_join, rows_push}

-- ---- the parts of the text

entries_join : (xs ys : List (ℕ × Avalanche)) → entries_text (xs ++ ys) ≡ entries_text xs ++ entries_text ys
unfolding entries_text
entries_join [] ys = refl
entries_join (x ∷ xs) ys = ap (λ t. entry_text x ++ t) (entries_join xs ys)
    ∙ sym (append_assoc (entry_text x) (entries_text xs) (entries_text ys))

entries_first : (x : ℕ × Avalanche) (xs : List (ℕ × Avalanche))
    → entries_text (x ∷ xs) ≡ entry_text x ++ entries_text xs
unfolding entries_text
entries_first x xs = refl

no_entries : entries_text [] ≡ []
unfolding entries_text
no_entries = refl

-- the rows of some drops, one row, and the rows after it
rows_around : (part : Part) (rows : List (ℕ × Avalanche)) (row : ℕ × Avalanche) (more : List (ℕ × Avalanche))
    → rows_in part rows ++ (row_in part row ++ rows_in part more) ≡ rows_in part (rows ++ row ∷ more)
rows_around parts.Pile rows row more = refl
rows_around parts.Table rows row more =
    ap (λ t. entries_text rows ++ t) (sym (entries_first row more)) ∙ sym (entries_join rows (row ∷ more))
rows_around parts.All rows row more =
    ap (λ t. entries_text rows ++ t) (sym (entries_first row more)) ∙ sym (entries_join rows (row ∷ more))

no_rows : (part : Part) → rows_in part [] ≡ []
no_rows parts.Pile = refl
no_rows parts.Table = no_entries
no_rows parts.All = no_entries

-- the whole text
pub text_in_parts : (part : Part) (rows : List (ℕ × Avalanche)) (last : SettledView)
    → head_in part ++ (rows_in part rows ++ end_in part last) ≡ drops_in part rows last
text_in_parts parts.Pile rows last = refl
text_in_parts parts.Table rows last = ap (λ t. table_head ++ t) (append-nil (entries_text rows))
text_in_parts parts.All rows last =
    let table = table_head ++ entries_text rows in
    let pile = text_of last.pile in
    let lost = sum_line (codes "lost ") last.lost in
    let topplings = sum_line (codes "topplings ") last.topplings in
    sym (append_assoc table_head (entries_text rows) (pile_and_sums last))
    ∙ sym (append_assoc table (pile ++ lost) topplings)
    ∙ ap (λ t. t ++ topplings) (sym (append_assoc table pile lost))

-- ---- one more row

pub none_added : (part : Part) (n : ℕ) (v : DrivenView) (sites : List ℕ) (held : Option (List ℕ)) (b : Waiting)
    → sites ≡ [] → AreAdded part n v sites v held held b b
none_added part n v sites held b none =
    let P : List ℕ → Type 0 = λ l. AreRows n v l [] v in
    let Q : List ℕ → Type 0 = λ t. GrowsBy held held b b t in
    record { rows = []; dropped = subst P (sym none) (no_drops n v); grown = subst Q (sym (no_rows part)) (stays held b) }

pub row_added : (part : Part) (n m : ℕ) (v w u : DrivenView) (sites : List ℕ)
    (site : ℕ) (a : Avalanche) (held mid held' : Option (List ℕ)) (b c d : Waiting)
    → m ≡ n + length sites
    → AreAdded part n v sites w held mid b c → Drops w site u
    → IsAvalanche (grid_of_driven w) site (topplings_between w.settled u.settled) a
    → GrowsBy mid held' c d (row_in part (m, a)) → AreAdded part n v (sites ++ site ∷ []) u held held' b d
row_added part n m v w u sites site a held mid held' b c d number added drop is more =
    let P : List ℕ → Type 0 = λ t. GrowsBy held held' b d t in
    let whole : rows_in part added.rows ++ row_in part (m, a) ≡ rows_in part (added.rows ++ (m, a) ∷ []) =
    ap (λ t. rows_in part added.rows ++ t)
    (sym (append-nil (row_in part (m, a))) ∙ ap (λ t. row_in part (m, a) ++ t) (sym (no_rows part)))
    ∙ rows_around part added.rows (m, a) [] in
    record {
      rows = added.rows ++ (m, a) ∷ [];
      dropped = rows_push n m v w u sites added.rows site a number added.dropped drop is;
      grown =
          subst P whole (grows_on held mid held' b c d (rows_in part added.rows) (row_in part (m, a)) added.grown more);
    }

-- the writer failed in a row: the drops after it exist, and would have led to the rest
pub broke_in_row : (start : PileView) (part : Part) (n m : ℕ) (v w u : DrivenView) (before : List ℕ) (site : ℕ)
    (later : List ℕ) (a : Avalanche) (held mid held' : Option (List ℕ)) (b c : Waiting) (why : StreamFault)
    → m ≡ n + length before → AreAdded part n v before w held mid b c
    → IsAfter start before w → Drops w site u
    → IsAvalanche (grid_of_driven w) site (topplings_between w.settled u.settled) a
    → BreaksIn mid held' c (row_in part (m, a)) why
    → All (λ j. j < sites start.grid) later
    → sum start.heights + (length before + suc (length later)) ≤ most_grains_on start.grid
    → BreaksInRows start part n v (before ++ site ∷ later) held held' b (of_stream why)
broke_in_row start part n m v w u before site later a held mid
    held' b c why number added after drop is broken inside few =
    let next = after_drop start before site w u drop after in
    let longer = length-append before (site ∷ []) in
    let rest = drops_exist start (before ++ site ∷ []) later (m + 1) u next inside (omega (arith, longer, few)) in
    let P : List ℕ → Type 0 = λ history. IsAfter start history rest.last in
    record {
      why = why;
      told = refl;
      last = rest.last;
      rows = added.rows ++ (m, a) ∷ rest.rows;
      dropped = rows_join n m v w rest.last before (site ∷ later) added.rows ((m, a) ∷ rest.rows) number
          added.dropped (rows_first m w u rest.last site later a rest.rows drop is rest.dropped);
      end = subst P (append_assoc before (site ∷ []) later) rest.end;
      broken = breaks_within held mid held' b c (rows_in part added.rows) (row_in part (m, a))
          (rows_in part rest.rows) (rows_in part (added.rows ++ (m, a) ∷ rest.rows)) why
          (rows_around part added.rows (m, a) rest.rows) added.grown broken;
    }
