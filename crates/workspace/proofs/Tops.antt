-- A scan from the top of a stack: what it reads lies in its arrays, and what it answers is what the graph's scan finds. Assumes nothing.
use Prim.Native.Nat.{ℕ, ◌+◌, ◌/◌, ◌≤◌}
use mathlib.Core.Path.{◌≡◌, sym, subst, subst₂}
use mathlib.Core.List.{List}
use lib.ListN.{get_or, take}
use Rattle.reading.specs.Parts.{places}
use Rattle.graph.proofs.Machine.{Skips, Finds}
use Rattle.workspace.proofs.Setting.{cursors_of, number_of, Coded, Setting, Topped, top_code, top_cursor}
use Rattle.workspace.proofs.Case.{graph_of}
use Rattle.workspace.proofs.Edges.{start_rises}
use Rattle.workspace.proofs.Scanning.{RowIn, Line, line_of, Passed, Stops, Scannable}
use Rattle.workspace.proofs.Candidates.{line_here, end_here, first_is, after_is}
use Rattle.workspace.proofs.Found.{scannable, passed_all, stops_coded, stops_finds}

module _ {edges lanes starts : List ℕ} {guesses ones top size : ℕ} (c : Setting edges lanes starts guesses ones top size)
    {ws : List ℕ} {base depth : ℕ} (t : Topped c.parts ws base depth) (code : ℕ) (code_is : code ≡ top_code ws base depth) where
  coded_top : Coded c.parts code
  coded_top = subst (Coded c.parts) (sym code_is) t.coded

  pub top_rises : get_or starts (code / 128) 0 ≤ get_or starts (code / 128 + 1) 0
  top_rises =
      rw (first_is c code coded_top, after_is c code coded_top) (start_rises c.parts.edge_list (code / 128))

  module _ {state bits next first end : ℕ} (row : RowIn lanes starts top code state bits next first end) where
    here : line_of edges lanes guesses ones top state bits next first ≡ line_here c code coded_top
    here = rw (row.state_is, row.bits_is, row.next_is, row.first_is)

    pub top_scannable : Scannable (line_of edges lanes guesses ones top state bits next first) ws end
    top_scannable =
        subst₂ (λ (l : Line) (e : ℕ). Scannable l ws e) (sym here) (sym row.end_is) (scannable c code coded_top ws t.colours_lie)

    module _ {limit cursor : ℕ} (cursor_is : cursor ≡ top_cursor c.parts ws base depth) where
      pub top_skips : Passed (line_of edges lanes guesses ones top state bits next first) ws limit cursor end
          → Skips (graph_of c.parts c.admitted) limit (take (places c.parts) ws) (number_of c.parts (top_code ws base depth))
          (top_cursor c.parts ws base depth) (cursors_of c.parts)
      top_skips p =
          subst₂
          (λ (x k : ℕ). Skips (graph_of c.parts c.admitted) limit (take (places c.parts) ws) (number_of c.parts x) k (cursors_of c.parts))
          code_is cursor_is
          (passed_all c code coded_top ws limit cursor
          (subst₂ (λ (l : Line) (e : ℕ). Passed l ws limit cursor e) here row.end_is p))

      module _ {e found : ℕ} (s : Stops (line_of edges lanes guesses ones top state bits next first) ws limit end cursor e found) where
        stops : Stops (line_here c code coded_top) ws limit (end_here c code coded_top) cursor e found
        stops = subst₂ (λ (l : Line) (n : ℕ). Stops l ws limit n cursor e found) here row.end_is s

        pub top_coded : Coded c.parts found
        top_coded = stops_coded c code coded_top ws limit cursor e found stops

        pub top_finds : Finds (graph_of c.parts c.admitted) limit (take (places c.parts) ws)
            (number_of c.parts (top_code ws base depth)) (top_cursor c.parts ws base depth) e (number_of c.parts found)
        top_finds =
            subst₂
            (λ (x k : ℕ).
            Finds (graph_of c.parts c.admitted) limit (take (places c.parts) ws) (number_of c.parts x) k e (number_of c.parts found))
            code_is cursor_is
            (stops_finds c code coded_top ws limit cursor e found stops)
