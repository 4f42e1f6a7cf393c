-- A header and the rows behind it are the picture of a job that has an output.
use Rattle.std.proofs.Common.{◌≡◌, ℕ, List, [], ◌++◌, length, Option, Some, None, sym, ap, ◌∙◌}
use Rattle.std.specs.Prelude.{slice_get, slice_index}
use Rattle.std.specs.Option.{option_map, option_map_or}
use Rattle.std.proofs.lemmas.List.{length-map}
use Rattle.domains.specs.Span.{len_of}
use Rattle.domains.specs.declared.area.Area.{Area}
use Rattle.netpbm.specs.Image.{image as image_of}
use Rattle.netpbm.specs.Spelling.{header as header_of, spelling}
use Rattle.job.specs.Answers.{height_of, image, picture_of, samples, width_of}
use Rattle.job.specs.Pipeline.{Output, Pipeline, Stage}
use Rattle.job.specs.WellFormed.{IsOutput}
use Rattle.raw_rows.specs.Rows.{raw_rows}
use Rattle.raw_rows.proofs.RowLaws.{raw_rows_are_raster}
use Rattle.row_streams.specs.Strips.{row_count}
use Rattle.command_jobs.specs.Results.{result_bytes, total_lines}

-- a number of the domain of a stage that is there
of_domain : (f : Area → ℕ) (found : Option Stage) (area : Area) → option_map (λ s. s.domain) found ≡ Some area
    → option_map_or (λ s. f s.domain) found 0 ≡ f area
of_domain f None area is = ap (λ o. option_map_or f o 0) is
of_domain f (Some s) area is = ap (λ o. option_map_or f o 0) is

-- the domain of the stage of this number
abbrev pub domain_at : Pipeline → ℕ → Option Area
domain_at job g = option_map (λ s. s.domain) (slice_get job.stages g)

pub picture_is : (job : Pipeline) (o : Output) (area : Area) (first count max : ℕ) (header rows : List ℕ) → job.output ≡ Some o
    → IsOutput job o → first ≡ slice_index o.stages 0 → Some area ≡ domain_at job first
    → count ≡ length o.stages → max ≡ o.max
    → ((planes : List (List ℕ)) → length planes ≡ count → header ≡ header_of (image_of (len_of area.rows) (len_of area.cols) max planes))
    → rows ≡ raw_rows job o 0 (len_of area.rows) → header ++ rows ≡ option_map_or spelling (image job) []
picture_is job o area first count max header rows output formed is there number greatest spelt are =
    let stage = slice_index o.stages 0 in
    let found = sym (there ∙ ap (domain_at job) is) in
    let planes = (picture_of job o).planes in
    let height : height_of job stage ≡ len_of area.rows = of_domain (λ a. len_of a.rows) (slice_get job.stages stage) area found in
    let width : width_of job stage ≡ len_of area.cols = of_domain (λ a. len_of a.cols) (slice_get job.stages stage) area found in
    ap (λ h. h ++ rows) (spelt planes (length-map o.stages (samples job o.max) ∙ sym number))
    ∙ ap (λ m. header_of (image_of (len_of area.rows) (len_of area.cols) m planes) ++ rows) greatest
    ∙ ap (λ n. header_of (image_of n (len_of area.cols) o.max planes) ++ rows) (sym height)
    ∙ ap (λ n. header_of (image_of (height_of job stage) n o.max planes) ++ rows) (sym width)
    ∙ ap (λ l. header_of (picture_of job o) ++ l) (are ∙ ap (raw_rows job o 0) (sym height) ∙ raw_rows_are_raster job o formed)
    ∙ ap (λ out. option_map_or spelling (option_map (picture_of job) out) []) (sym output)

-- the height of the first plane is that of its domain
pub rows_of_area : (job : Pipeline) (o : Output) (area : Area) (first : ℕ) → first ≡ slice_index o.stages 0 → Some area ≡ domain_at job first
    → row_count job o ≡ len_of area.rows
rows_of_area job o area first is there =
    of_domain (λ a. len_of a.rows) (slice_get job.stages (slice_index o.stages 0)) area (sym (there ∙ ap (domain_at job) is))

-- a picture, and the lines of accumulators behind it
pub result_is : (job : Pipeline) (picture lines : List ℕ) → picture ≡ option_map_or spelling (image job) [] → lines ≡ total_lines job
    → picture ++ lines ≡ result_bytes job
result_is job picture lines is are = λ i. is i ++ are i
