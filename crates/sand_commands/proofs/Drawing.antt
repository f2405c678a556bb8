-- The faults of `drops --count`: the pile cannot be read, or there is no room for all drops.
use Rattle.sand_commands.proofs.Common.{◌≡◌, ◌+◌, ◌<◌, ℕ, List, refl, sym, ap, subst, arith, length, sum, Some, Ok, Err, sites, PileView, most_grains_on, TextFault, pile_of, ◌>>=◌, Draw, DeskFault, Finds, IsDropsFault, IsOverfull, drawn_sites, with_draw, of_text}
use Rattle.sand_text.specs.declared.fault.TextFault.TheVariants as text
use Rattle.sand_commands.specs.declared.faults.DeskFault.TheVariants as desk
use Rattle.sand_commands.specs.Answers.{Fails}
use Rattle.sand_commands.proofs.DrawnSites.{length-drawn}

-- a text without a pile has none to drop on
read_fault : (draw : Draw) (input : List ℕ) (why : TextFault) → pile_of input ≡ Err why
    → Finds (IsDropsFault (Some draw) input) (of_text why)
read_fault draw input (text.Text offset) e =
    record { why = text.Text offset; read = ap (λ r. r >>= with_draw draw) e; told = refl }
read_fault draw input (text.TooLarge offset) e =
    record { why = text.TooLarge offset; read = ap (λ r. r >>= with_draw draw) e; told = refl }
read_fault draw input text.Side e = record { why = text.Side; read = ap (λ r. r >>= with_draw draw) e; told = refl }
read_fault draw input text.Narrow e = record { why = text.Narrow; read = ap (λ r. r >>= with_draw draw) e; told = refl }
read_fault draw input text.Length e = record { why = text.Length; read = ap (λ r. r >>= with_draw draw) e; told = refl }
read_fault draw input text.TooManyGrains e =
    record { why = text.TooManyGrains; read = ap (λ r. r >>= with_draw draw) e; told = refl }
read_fault draw input (text.NoSite index) e =
    record { why = text.NoSite index; read = ap (λ r. r >>= with_draw draw) e; told = refl }

by_why : (draw : Draw) (input : List ℕ) (fault : DeskFault) (why : TextFault)
    → pile_of input ≡ Err why → fault ≡ of_text why
    → Finds (IsDropsFault (Some draw) input) fault
by_why draw input fault why e is = subst (Finds (IsDropsFault (Some draw) input)) (sym is) (read_fault draw input why e)

pub unread : (draw : Draw) (input : List ℕ) (fault : DeskFault) → Fails fault (pile_of input)
    → Finds (IsDropsFault (Some draw) input) fault
unread draw input desk.Memory h = tt
unread draw input desk.Side (why, e, is) = by_why draw input desk.Side why e is
unread draw input desk.Length (why, e, is) = by_why draw input desk.Length why e is
unread draw input desk.TooManyGrains (why, e, is) = by_why draw input desk.TooManyGrains why e is
unread draw input desk.Full (why, e, is) = by_why draw input desk.Full why e is
unread draw input desk.Unstable (why, e, is) = by_why draw input desk.Unstable why e is
unread draw input desk.NotRecurrent (why, e, is) = by_why draw input desk.NotRecurrent why e is
unread draw input desk.Shapes (why, e, is) = by_why draw input desk.Shapes why e is
unread draw input desk.Taken (why, e, is) = by_why draw input desk.Taken why e is
unread draw input (desk.Text offset) (why, e, is) = by_why draw input (desk.Text offset) why e is
unread draw input (desk.TooLarge offset) (why, e, is) = by_why draw input (desk.TooLarge offset) why e is
unread draw input desk.Read (why, e, is) = by_why draw input desk.Read why e is
unread draw input (desk.Write sent) (why, e, is) = by_why draw input (desk.Write sent) why e is
unread draw input desk.TooLong (why, e, is) = by_why draw input desk.TooLong why e is
unread draw input (desk.Usage error) (why, e, is) = by_why draw input (desk.Usage error) why e is
unread draw input (desk.Clash conflict) (why, e, is) = by_why draw input (desk.Clash conflict) why e is
unread draw input desk.Narrow (why, e, is) = by_why draw input desk.Narrow why e is
unread draw input (desk.NoSite index) (why, e, is) = by_why draw input (desk.NoSite index) why e is

-- if the grains and drops exceed the limit, there is no room for all drops
pub overfull : (draw : Draw) (input : List ℕ) (start : PileView)
    → pile_of input ≡ Ok start → most_grains_on start.grid < sum start.heights + draw.count
    → IsOverfull (Some draw) input
overfull draw input start read over =
    let drawn = drawn_sites (sites start.grid) draw in
    let long : length drawn ≡ draw.count =
    length-drawn (sites start.grid) draw.seed draw.stream draw.from draw.count (draw.from + draw.count) refl in
    record { pile = start; sites = drawn; read = ap (λ r. r >>= with_draw draw) read; over = omega (arith, over, long) }
