-- Document 02, (i), about a function that makes the calls: what put counted, and the new source read afresh.
use Rattle.std.specs.Prelude.{◌≡◌, ◌+◌, ◌≤◌, length, take}
use Rattle.semantics.specs.Text.{Text}
use Rattle.semantics.specs.Lens.{Lens, entries}
use Rattle.semantics.specs.Calls.{gives, program, get_call, put_call}
use Rattle.semantics.specs.Tally.{put_tally}
use Rattle.noontrough.specs.Exports.{ExportsSource}
use Rattle.afresh.specs.declared.tallied.ReadAfresh.{ReadAfresh}
use Rattle.demands.specs.Demands.{blank, LinkedMade}

-- the text that put gave
unfoldable pub new_source : ReadAfresh → Text
new_source r = take r.first.length r.given

-- Put was made, and then get of what it gave, and put of that sheet on it.
pub record ReadMade (bytes a old : Text) (r : ReadAfresh) : Type 0 where
  pub put_made : ExportsSource (put_call bytes a old 4096) (put_tally bytes a old) blank r.given r.first
  pub read_made :
      let t = new_source r in
      LinkedMade (get_call bytes t 4096) (λ b. put_call bytes b t 4096) (λ b. put_tally bytes b t) r.afresh

pub record CountsAfresh (bytes old : Text) (r : ReadAfresh) : Type 0 where
  -- 'Kept plus dropped is the old source's number of entries'
  pub old_counted : (l : Lens) → program bytes ≡ gives l → r.first.number ≡ 0 → r.first.kept + r.first.dropped ≡ length (entries l old)
  -- 'kept plus made is the number found by reading the new source afresh', where put takes that source, of at most 256 entries, as an old one
  pub new_counted :
      (l : Lens)
      → program bytes ≡ gives l
      → r.first.number ≡ 0
      → length (entries l (new_source r)) ≤ 256
      → r.first.kept + r.first.made ≡ r.afresh.second.kept
