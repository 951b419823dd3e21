-- A page of HTML that shows a segment: its picture, its figures, and its objects as a table.
use Rattle.std.specs.Prelude.{ℕ, List, ◌++◌, codes, decimal, flat_map}
use Rattle.best_fit.specs.Extents.{handle}
use Rattle.seg_types.specs.declared.kinds.Class.{Class}
use Rattle.seg_types.specs.declared.kinds.Kind.{Kind}
use Rattle.seg_types.specs.Texts.{class_text, kind_text}
use Rattle.segment_manager.specs.declared.objects.instance_info.Instance.{Instance}
use Rattle.segment_manager.specs.Directory.{Directory, Object, count_of, kind_of}
use Rattle.segment_report.specs.Parts.{xml_text}
use Rattle.segment_report.specs.Picture.{picture_of}
use Rattle.segment_report.specs.Stat.{stat_text}

-- ---- what each page has

-- how the page begins: its encoding and its style
abbrev pub page_head : List ℕ
page_head =
    codes "<!DOCTYPE html>\n<html lang='en'><head><meta charset='utf-8'><title>Segment</title>\n"
    ++ codes "<style>body{font:14px sans-serif;margin:2em}svg{max-width:1080px}"
    ++ codes
    "table{border-collapse:collapse}td,th{padding:2px 12px;border-bottom:1px solid #ccd;text-align:left}th{cursor:pointer}</style></head>\n<body><h1>Segment</h1>\n"

-- the part before the figures: a browser does not show it as text
abbrev pub figures_head : List ℕ
figures_head =
    codes "<h2>Figures</h2><table id='figures'></table>\n<script type='text/plain' id='stat'>\n"

-- the part before the rows of the table
abbrev pub table_head : List ℕ
table_head =
    codes "</script>\n<h2>Objects</h2><input id='search' placeholder='search'>\n<table id='objects'><thead>"
    ++ codes "<tr><th>class</th><th>name</th><th>kind</th><th>count</th><th>handle</th></tr></thead><tbody>\n"

-- how the page ends: the script that lays out the figures, and sorts and searches the table
abbrev pub page_end : List ℕ
page_end =
    codes "</tbody></table>\n<script>\n"
    ++ codes
    "const rows=[...document.querySelectorAll('#objects tbody tr')],body=document.querySelector('#objects tbody');\n"
    ++ codes "const lines=document.getElementById('stat').textContent.trim().split(String.fromCharCode(10));\n"
    ++ codes
    "for(const line of lines){const at=line.lastIndexOf(' '),row=document.getElementById('figures').insertRow();\n"
    ++ codes "row.insertCell().textContent=line.slice(0,at);row.insertCell().textContent=line.slice(at+1)}\n"
    ++ codes
    "document.getElementById('search').oninput=e=>{for(const row of rows)row.hidden=!row.textContent.includes(e.target.value)};\n"
    ++ codes "document.querySelectorAll('#objects th').forEach((head,column)=>{let up=false;head.onclick=()=>{up=!up;\n"
    ++ codes "rows.sort((a,b)=>{const x=a.cells[column].textContent,y=b.cells[column].textContent;\n"
    ++ codes "return(up?1:-1)*(x-y||x.localeCompare(y))});for(const row of rows)body.append(row)}});\n"
    ++ codes "</script></body></html>\n"

-- ---- the objects

-- a row of the table, of these cells
abbrev pub cells_text : List ℕ → List ℕ → Kind → ℕ → ℕ → List ℕ
cells_text class name kind count handle =
    codes "<tr><td>" ++ (class ++ (codes "</td><td>"
    ++ (xml_text name ++ (codes "</td><td>" ++ (xml_text (kind_text kind) ++ (
    codes "</td><td>" ++ (decimal count ++ (codes "</td><td>" ++ (decimal handle ++ codes "</td></tr>\n")))))))))

-- class, name, kind, number of elements, handle
abbrev pub row_text : Class → List ℕ → Kind → ℕ → ℕ → List ℕ
row_text class name kind count handle = cells_text (class_text class) name kind count handle

-- the row of an object
abbrev pub instance_row : Instance → List ℕ
instance_row said = row_text said.class said.name.now said.kind said.count said.handle

abbrev pub object_row : Object → List ℕ
object_row o = row_text o.class o.name (kind_of o.value) (count_of o.value) (handle o.extent)

-- a row for each object, in the order of the directory
abbrev pub rows_text : Directory → List ℕ
rows_text d = flat_map object_row d.objects

-- ---- the whole page

-- the front of the page, with the picture
abbrev pub picture_part : Directory → List ℕ
picture_part d = page_head ++ picture_of d

-- the figures of the page
abbrev pub figures_part : Directory → List ℕ
figures_part d = figures_head ++ stat_text d

-- the table of objects, and the end of the page
abbrev pub objects_part : Directory → List ℕ
objects_part d = table_head ++ (rows_text d ++ page_end)

-- an HTML page with the picture, the figures and a row for each object
abbrev pub page_of : Directory → List ℕ
page_of d = picture_part d ++ (figures_part d ++ objects_part d)
