-- The drops of a draw and those of one dropper are the same at each site, so they leave the same settled record.
use Rattle.sand_desk.proofs.Common.{common_steps, ◌≡◌, ◌+◌, ℕ, List, [], ◌∷◌, length, sym, ap, ◌∙◌, subst, arith, Result, Ok, Err, AreEpochs, IsReport, ReportView, SheetView, histories}
use Rattle.sand_model.specs.Grid.{sites}
use Rattle.sand_model.specs.Piles.{PileView}
use Rattle.sand_model.specs.Sand.{occurrences, sum_below}
use Rattle.sand_model.proofs.Occurrences.{occurrences-append}
use Rattle.sand_settle.specs.Drops.{DrivenView, IsAfter}
use Rattle.sand_settle.specs.Settling.{SettledView}
use Rattle.sand_shared.specs.Record.{RecordView}
use Rattle.sand_shared.proofs.Receipts.{is_one_threads}
use Rattle.sand_wish.specs.declared.wish.Wish.{Wish}
use Rattle.sand_lab.specs.Streams.{stream_of, stream_sites}
use Rattle.sand_lab.proofs.RunHasOneOutcome.{one_threads_once}
use Rattle.sand_text.specs.declared.fault.TextFault.{TextFault}
use Rattle.sand_text.specs.Reading.{◌>>=◌}
use Rattle.sand_text.specs.Texts.{text_of}
use Rattle.sand_cli.specs.declared.task.Draw.{Draw}
use Rattle.sand_cli.specs.declared.task.Part.TheVariants as parts
use Rattle.sand_desk.specs.Drawing.{DropsTheDraw, LeavesTheSame, WritesTheSamePile}
use Rattle.sand_commands.specs.DropsCommand.{drawn_sites, with_draw}

abbrev drawn_on : Draw → PileView → List ℕ
drawn_on draw start = drawn_sites (sites start.grid) draw

-- in one epoch, one dropper drops on each site as often as the draw
epoch_of_draw : (draw : Draw) (w : Wish) → DropsTheDraw draw w → (start : PileView) (i : ℕ)
    → sum_below w.droppers (λ k. occurrences (stream_sites (sites start.grid) w.seed (stream_of 0 k) w.drops) i)
    ≡ occurrences (drawn_on draw start) i
unfolding sum_below
epoch_of_draw draw w asks start i = grind (arith, common_steps)

-- so does the run
run_of_draw : (draw : Draw) (album : List ℕ) (w : Wish) → DropsTheDraw draw w
    → (start : PileView) (rs : List RecordView) (ss : List SheetView)
    → length rs ≡ 1
    → AreEpochs album w start 0 rs ss → (i : ℕ) → occurrences (histories rs) i ≡ occurrences (drawn_on draw start) i
run_of_draw draw album w asks start [] ss one epochs i = absurd (omega arith)
run_of_draw draw album w asks start (r ∷ []) [] one epochs i = absurd epochs
run_of_draw draw album w asks start (r ∷ []) (s ∷ ss) one epochs i =
    let whole : occurrences (histories (r ∷ [])) i ≡ occurrences r.history i + 0 = occurrences-append r.history [] i in
    let each = epochs.0.closed.by_site i in
    let drawn = epoch_of_draw draw w asks start i in
    omega (arith, whole, each, drawn)
run_of_draw draw album w asks start (r ∷ q ∷ rs) ss one epochs i = absurd (omega arith)

-- the record of the run is that of the single-threaded pile
same_record : (draw : Draw) (album : List ℕ) (w : Wish) → DropsTheDraw draw w
    → (start : PileView) (last : DrivenView) (report : ReportView)
    → IsAfter start (drawn_on draw start) last
    → IsReport album w start report → last.settled ≡ report.total.settled
same_record draw album w asks start last report after left =
    let mine : RecordView = record { start = start; history = drawn_on draw start; settled = last.settled } in
    let one = is_one_threads mine after.start_pile after.all_sites after.limit after.settled in
    one_threads_once mine report.total one left.total.one_threads (sym left.total.from_start)
    (λ i. sym (run_of_draw draw album w asks start report.records report.sheets (left.all ∙ asks.epochs) left.epochs i)
    ∙ ap (λ (h : List ℕ). occurrences h i) (sym left.total.history))

read_or : {A : Type 0} → A → Result A TextFault → A
read_or x (Ok y) = y
read_or x (Err e) = x

pub leaves_the_same : LeavesTheSame
unfolding read_or
leaves_the_same draw w part journal form input one other asks drops run =
    let start = run.start in
    let reads : ◌≡◌ {A = Result (PileView × List ℕ) TextFault}
    (Ok (start, drawn_on draw start)) (Ok (drops.pile, drops.sites)) =
    sym (ap (λ r. r >>= with_draw draw) run.read) ∙ drops.read in
    let pair : (start, drawn_on draw start) ≡ (drops.pile, drops.sites) =
    ap (read_or (start, drawn_on draw start)) reads in
    let after : IsAfter start (drawn_on draw start) drops.last =
    subst (λ (p : PileView × List ℕ). IsAfter p.0 p.1 drops.last) (sym pair) drops.end in
    same_record draw run.album w asks start drops.last run.report after run.left

pub writes_the_same_pile : WritesTheSamePile
writes_the_same_pile draw w journal input one other asks drops run =
    drops.written
    ∙ ap (λ (r : SettledView). text_of r.pile)
    (leaves_the_same draw w parts.Pile journal _ input one other asks drops run)
    ∙ sym run.written
