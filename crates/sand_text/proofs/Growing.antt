-- A text that is written in blocks grows part by part, and writing may fail in one of them.
use Rattle.sand_text.proofs.Common.{◌≡◌, ℕ, ◌+◌, List, [], ◌++◌, length, take, length-append, append-nil, append_assoc, refl, sym, ◌∙◌, ap, arith, subst, take-append-add, Option, Appends, Appends-nil, Appends-trans, take-append-le, usual}
use Rattle.sand_text.specs.declared.fault.StreamFault.{StreamFault}
use Rattle.sand_text.specs.declared.fault.StreamFault.TheVariants.{Write}
use Rattle.sand_text.specs.Blocks.{BreaksIn, GrowsBy, Waiting}

pub stays : (held : Option (List ℕ)) (b : Waiting) → GrowsBy held held b b []
stays held b = record { gone = []; all = append-nil b.bytes; count = omega arith; written = Appends-nil held }

pub grows_on : (held mid held' : Option (List ℕ)) (b c d : Waiting) (p q : List ℕ)
    → GrowsBy held mid b c p → GrowsBy mid held' c d q
    → GrowsBy held held' b d (p ++ q)
grows_on held mid held' b c d p q first next = record {
  gone = first.gone ++ next.gone;
  all =
      sym (append_assoc b.bytes p q) ∙ ap (λ t. t ++ q) first.all ∙ append_assoc first.gone c.bytes q
      ∙ ap (λ t. first.gone ++ t) next.all ∙ sym (append_assoc first.gone next.gone d.bytes);
  count = omega (arith, first.count, next.count, length-append first.gone next.gone);
  written = Appends-trans held mid held' first.gone next.gone first.written next.written;
}

-- one part, then a failure in another
pub breaks_on : (held mid held' : Option (List ℕ)) (b c : Waiting) (p q : List ℕ) (fault : StreamFault)
    → GrowsBy held mid b c p → BreaksIn mid held' c q fault
    → BreaksIn held held' b (p ++ q) fault
breaks_on held mid held' b c p q fault first broken =
    let whole : b.bytes ++ (p ++ q) ≡ first.gone ++ (c.bytes ++ q) =
    sym (append_assoc b.bytes p q) ∙ ap (λ t. t ++ q) first.all ∙ append_assoc first.gone c.bytes q in
    let long : length (b.bytes ++ (p ++ q)) ≡ length first.gone + length (c.bytes ++ q) =
    ap length whole ∙ length-append first.gone (c.bytes ++ q) in
    let front : take (length first.gone + broken.taken) (b.bytes ++ (p ++ q))
    ≡ first.gone ++ take broken.taken (c.bytes ++ q) =
    ap (take (length first.gone + broken.taken)) whole ∙ take-append-add first.gone (c.bytes ++ q) broken.taken in
    let count : c.sent + broken.taken ≡ b.sent + (length first.gone + broken.taken) = omega (arith, first.count) in
    record {
      taken = length first.gone + broken.taken;
      told = broken.told ∙ ap Write count;
      within = omega (arith, long, broken.within);
      written = subst (Appends held held') (sym front)
          (Appends-trans held mid held' first.gone (take broken.taken (c.bytes ++ q)) first.written broken.written);
    }

-- a failure in a part is a failure whatever follows
pub breaks_before : (held held' : Option (List ℕ)) (b : Waiting) (p q : List ℕ) (fault : StreamFault)
    → BreaksIn held held' b p fault → BreaksIn held held' b (p ++ q) fault
breaks_before held held' b p q fault broken = grind (arith, usual, append_assoc, length-append, take-append-le)

-- one part, then a failure in another, whatever follows
pub breaks_within : (held mid held' : Option (List ℕ)) (b c : Waiting) (p q rest whole : List ℕ) (fault : StreamFault)
    → p ++ (q ++ rest) ≡ whole → GrowsBy held mid b c p
    → BreaksIn mid held' c q fault
    → BreaksIn held held' b whole fault
breaks_within held mid held' b c p q rest whole fault all first broken =
    let broken : BreaksIn held held' b ((p ++ q) ++ rest) fault =
    breaks_before held held' b (p ++ q) rest fault (breaks_on held mid held' b c p q fault first broken) in
    subst (λ t. BreaksIn held held' b t fault) (append_assoc p q rest ∙ all) broken

-- the text grew by a whole except for what is left of it
pub record GrowsUpTo (held held' : Option (List ℕ)) (b b' : Waiting) (left whole : List ℕ) : Type 0 where
  pub added : List ℕ
  pub all : added ++ left ≡ whole
  pub grown : GrowsBy held held' b b' added

pub nothing_added : (held : Option (List ℕ)) (b : Waiting) (whole : List ℕ) → GrowsUpTo held held b b whole whole
nothing_added held b whole = record { added = []; all = refl; grown = stays held b }

pub all_added : (held held' : Option (List ℕ)) (b c : Waiting) (whole : List ℕ)
    → GrowsUpTo held held' b c [] whole → GrowsBy held held' b c whole
all_added held held' b c whole before =
    subst (GrowsBy held held' b c) (sym (append-nil before.added) ∙ before.all) before.grown

-- the next part of what is left is added
pub part_added : {held mid held' : Option (List ℕ)} {b c d : Waiting} {left p rest whole : List ℕ}
    → GrowsUpTo held mid b c left whole → left ≡ p ++ rest → GrowsBy mid held' c d p → GrowsUpTo held held' b d rest whole
part_added {held} {mid} {held'} {b} {c} {d} {left} {p} {rest} before next grown = record {
  added = before.added ++ p;
  all = append_assoc before.added p rest ∙ ap (λ t. before.added ++ t) (sym next) ∙ before.all;
  grown = grows_on held mid held' b c d before.added p before.grown grown;
}

-- the writer fails in it
pub part_breaks : {held mid held' : Option (List ℕ)} {b c : Waiting} {p whole : List ℕ} {fault : StreamFault}
    (left rest : List ℕ) → GrowsUpTo held mid b c left whole → left ≡ p ++ rest → BreaksIn mid held' c p fault
    → BreaksIn held held' b whole fault
part_breaks {held} {mid} {held'} {b} {c} {p} {whole} {fault} left rest before next broken =
    breaks_within held mid held' b c before.added p rest whole fault
    (ap (λ t. before.added ++ t) (sym next) ∙ before.all) before.grown broken
