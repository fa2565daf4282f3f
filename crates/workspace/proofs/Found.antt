-- What a scan answers is what the graph's scan finds, or that it finds none; and every index that a scan reads lies in its array.
-- Assumes nothing.
use Prim.Native.Nat.{ℕ, suc, ◌+◌, ◌-◌, ◌*◌, ◌/◌, ◌%◌, ◌^◌, ◌≤◌, ◌<◌}
use native.Mathlib.Omega.{arith}
use mathlib.Core.Path.{◌≡◌, sym, ap, ◌∙◌, subst}
use mathlib.Core.Bool.{Bool, true, false, cond}
use mathlib.Core.List.{List}
use mathlib.Core.Option.{some}
use lib.ListN.{length, get_or, take}
use lib.Seq.{get_or-take}
use Rattle.bits.specs.Bits.{bit}
use Rattle.reading.specs.Parts.{edge_count, to_of, temporals, eventualities, places}
use Rattle.graph.proofs.Graph.{◌!◌}
use Rattle.graph.proofs.Machine.{Skips, Finds}
use Rattle.product.specs.Places.{Place}
use Rattle.product.specs.Product.{numbering}
use Rattle.product.proofs.Steps.{successor↔tests}
use Rattle.workspace.proofs.Setting.{product_of, edge_at, candidate, cand_of, cursors_of, code_of, decoded, number_of, Coded, Setting}
use Rattle.workspace.proofs.Case.{width_is, top_is as top_counts, top_within, next_within, Leads, candidate_leads}
use Rattle.workspace.proofs.Case.{leads_candidate, candidate_below, size_is as size_counts, start_within, coded_place, code_coded, code_decoded, graph_of}
use Rattle.workspace.proofs.Scanning.{cursors_in, fits_at, index_at, Passed, Stops, Scannable}
use Rattle.workspace.proofs.Candidates.{end_open, line_here, end_here, first_is, after_is, to_is, next_here, line_leads, Lies, leads_line}

cursors_within : (lanes : List ℕ) (edges s b : ℕ) → cursors_in lanes edges s b ≤ edges * 16
cursors_within lanes edges s b = go (bit (get_or lanes (s * 16 + 12) 0) b)
  where
    go : (v : Bool) → cond v 0 (edges * 16) ≤ edges * 16
    go true = omega arith
    go false = omega arith

cursors_whole : (lanes : List ℕ) (edges s b : ℕ) → cursors_in lanes edges s b % 16 ≡ 0
cursors_whole lanes edges s b = go (bit (get_or lanes (s * 16 + 12) 0) b)
  where
    go : (v : Bool) → cond v 0 (edges * 16) % 16 ≡ 0
    go true = omega arith
    go false = omega arith

module _ {edges lanes starts : List ℕ} {guesses ones top' size : ℕ} (c : Setting edges lanes starts guesses ones top' size)
    (code : ℕ) (is : Coded c.parts code) where
  leads : (a : ℕ) → a < end_here c code is → fits_at (line_here c code is) a ≡ true
      → Leads c.parts (decoded code) a (index_at (line_here c code is) a)
  leads = line_leads c code is

  edge_low : (a : ℕ) → a < end_here c code is → edge_at c.parts (decoded code) a < edge_count c.parts.edge_list
  edge_low a h =
      omega (
        arith,
        (end_open lanes (get_or starts (code / 128 + 1) 0 - get_or starts (code / 128) 0) (code / 128) (code / 8 % 16) a h).1,
        first_is c code is,
        after_is c code is,
        start_within c.parts.edge_list (suc (code / 128)),
      )

  next_low : (line_here c code is).next ≤ eventualities c.parts
  next_low =
      rw (next_here c code is) (omega (arith, next_within (product_of c.parts) (decoded code), top_counts c.parts c.admitted))

  end_low : end_here c code is ≤ edge_count c.parts.edge_list * 16
  end_low =
      omega (
        arith,
        cursors_within lanes (get_or starts (code / 128 + 1) 0 - get_or starts (code / 128) 0) (code / 128) (code / 8 % 16),
        after_is c code is,
        start_within c.parts.edge_list (suc (code / 128)),
      )

  pub scannable : (ws : List ℕ) → places c.parts ≤ length ws → Scannable (line_here c code is) ws (end_here c code is)
  scannable ws room =
      record {
        next_below = omega (arith, next_low, top_within c.parts c.admitted);
        end_below = omega (arith, end_low, c.admitted.few_edges);
        end_whole = cursors_whole lanes (get_or starts (code / 128 + 1) 0 - get_or starts (code / 128) 0) (code / 128) (code / 8 % 16);
        edges_lie = λ e h.
            let l : e * 16 < end_here c code is = omega arith in
            rw c.edges_are (omega (arith, first_is c code is, c.admitted.edge_bytes, edge_low (e * 16) l));
        to_below = λ e h.
            let l : e * 16 < end_here c code is = omega arith in
            let same : e * 16 / 16 ≡ e = omega arith in
            subst (λ (i : ℕ). to_of edges (get_or starts (code / 128) 0 + i) < 64) same
            (omega (arith, to_is c code is (e * 16), c.admitted.to_states (edge_at c.parts (decoded code) (e * 16)) (edge_low (e * 16) l), c.admitted.few_states));
        inside = λ a h f.
            omega (
              arith,
              size_counts c.parts c.admitted,
              candidate_below c.parts c.admitted (decoded code) a (index_at (line_here c code is) a) (leads a h f),
            );
      }

  -- ---- the answers

  module _ (ws : List ℕ) (limit : ℕ) where
    -- a candidate lies where its cursor says, among the colours
    colour_at : (a y : ℕ) → cand_of c.parts (number_of c.parts code) a ≡ some y
        → Lies c code is a y × (take (places c.parts) ws ! y ≡ get_or ws (index_at (line_here c code is) a) 0)
    colour_at a y e =
        let here = coded_place c.parts c.admitted is in
        let l = subst (λ (q : Place). Leads c.parts q a y) here (candidate_leads c.parts (number_of c.parts code) a y e) in
        let lies = leads_line c code is a y l in
        let below : y < places c.parts =
        omega (arith, size_counts c.parts c.admitted, candidate_below c.parts c.admitted (decoded code) a y l) in
        (lies, get_or-take (places c.parts) ws y 0 below ∙ ap (λ (i : ℕ). get_or ws i 0) (sym lies.lies))

    pub passed_skips : (cursor e : ℕ) → Passed (line_here c code is) ws limit cursor e
        → Skips (graph_of c.parts c.admitted) limit (take (places c.parts) ws) (number_of c.parts code) cursor e
    passed_skips cursor e p =
        record {
          skips = λ a y from low h.
              let at = colour_at a y h in
              rw at.1 (p.passes a from low at.0.fits);
        }

    -- past the end no cursor has a candidate
    pub passed_all : (cursor : ℕ) → Passed (line_here c code is) ws limit cursor (end_here c code is)
        → Skips (graph_of c.parts c.admitted) limit (take (places c.parts) ws) (number_of c.parts code) cursor (cursors_of c.parts)
    passed_all cursor p =
        record {
          skips = λ a y from low h.
              let at = colour_at a y h in
              rw at.1 (p.passes a from at.0.low at.0.fits);
        }

    module _ (cursor e found : ℕ) (stops : Stops (line_here c code is) ws limit (end_here c code is) cursor e found) where
      abbrev to : Place
      to = candidate c.parts (decoded code) e

      led : Leads c.parts (decoded code) e (index_at (line_here c code is) e)
      led = leads e stops.low stops.fits

      bits_below : e % 16 < 2 ^ temporals c.parts
      bits_below =
          rw (width_is c.parts c.admitted) at ((successor↔tests (product_of c.parts) (decoded code) to).0 led.follows).1

      code_is : found ≡ code_of to.state to.bits to.waiting
      code_is = stops.is ∙ rw (to_is c code is e, next_here c code is)

      pub stops_coded : Coded c.parts found
      stops_coded =
          subst (Coded c.parts) (sym code_is)
          (code_coded c.parts c.admitted to.state to.bits to.waiting
          (c.admitted.to_states (edge_at c.parts (decoded code) e) (edge_low e stops.low)) bits_below
          (omega (arith, next_within (product_of c.parts) (decoded code), top_counts c.parts c.admitted)))

      number_is : number_of c.parts found ≡ index_at (line_here c code is) e
      number_is =
          let small : to.bits < 16 = omega arith in
          let low : to.waiting < 8 =
          omega (arith, next_within (product_of c.parts) (decoded code), top_counts c.parts c.admitted, top_within c.parts c.admitted) in
          ap (number_of c.parts) code_is
          ∙ ap (numbering (product_of c.parts)) (code_decoded c.parts c.admitted to.state to.bits to.waiting small low)
          ∙ led.numbered_so

      pub stops_finds : Finds (graph_of c.parts c.admitted) limit (take (places c.parts) ws) (number_of c.parts code) cursor e
          (number_of c.parts found)
      stops_finds =
          record {
            from = stops.from;
            low = omega (arith, stops.low, end_low);
            leads = rw number_is here;
            under = rw (number_is, (colour_at e (index_at (line_here c code is) e) here).1) stops.under;
            before = passed_skips cursor e stops.before;
          }
        where
          here : cand_of c.parts (number_of c.parts code) e ≡ some (index_at (line_here c code is) e)
          here =
              leads_candidate c.parts (number_of c.parts code) e (index_at (line_here c code is) e)
              (subst (λ (q : Place). Leads c.parts q e (index_at (line_here c code is) e)) (sym (coded_place c.parts c.admitted is)) led)
