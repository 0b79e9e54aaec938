-- How the page looks: one style, in which each colour has a name, and its value in a light and in a dark scheme.
use Rattle.std.specs.Prelude.{ℕ, List, ◌++◌, codes}

-- The colours of both schemes. `scripts/contrasts` computes that words have a contrast of at least 4.5 to what is behind them, boxes of at
-- least 3, and boxes of different kinds that touch one of 1.5 to one another; the joins are tints.
unfoldable pub colours_text : List ℕ
colours_text =
    codes ":root{color-scheme:light dark;--ground:#fff;--words:#222;--small:#555;--grid:#d5d8dd;--sent:#00588f;\n"
    ++ codes "--join:#d9e8f4;--gap:#a06c00;--gap-words:#7a5200;--ti:#00694d;--spare:#2f8f70;--synchronizes:#3a9b7c;\n"
    ++ codes "--bears:#808894;--limits:#a63a00;--wait:#868e99}\n"
    ++ codes "@media screen and (prefers-color-scheme:dark){:root{--ground:#14171b;--words:#e6e8eb;--small:#aab2bd;--grid:#333a43;\n"
    ++ codes "--sent:#2a78b4;--join:#12293a;--gap:#e0a030;--gap-words:#e8b75a;--ti:#5fd6b0;--spare:#45b58d;\n"
    ++ codes "--synchronizes:#45b58d;--bears:#7d8794;--limits:#e8741e;--wait:#b0bac6}}\n"

-- The looks of the words and tables of the page.
unfoldable pub looks_text : List ℕ
looks_text =
    codes "body{background:var(--ground);color:var(--words);\n"
    ++ codes "font:14px/1.45 DejaVu Sans,Verdana,Helvetica,sans-serif;max-width:1040px;margin:16px auto;\n"
    ++ codes "padding:0 12px}h1{font-size:22px;margin:4px 0}h2{font-size:16px;margin:26px 0 6px}\n"
    ++ codes ".refused{color:var(--limits)}p,ul,dl{margin:6px 0}ul{padding-left:20px}\n"
    ++ codes "pre,code{font:12px/1.5 DejaVu Sans Mono,Menlo,Consolas,monospace}pre{margin:6px 0;white-space:pre-wrap}\n"
    ++ codes "pre.said{font:inherit;max-width:760px}pre.table{columns:4 200px}\n"
    ++ codes "dl{display:flex;flex-wrap:wrap;gap:6px 32px}dt{color:var(--small);\n"
    ++ codes "font-size:12px}dd{margin:0;font-size:16px;font-weight:bold}table{border-collapse:collapse;\n"
    ++ codes "font-variant-numeric:tabular-nums}th,td{padding:2px 14px 2px 0;text-align:right}th{font-weight:normal;\n"
    ++ codes "color:var(--small)}tbody tr{border-top:1px solid var(--grid)}svg{display:block;width:100%;height:auto}\n"
    ++ codes ".wide{overflow-x:auto}.matrix td,.matrix th{border:1px solid var(--grid);min-width:16px;padding:0 3px;text-align:center;\n"
    ++ codes "font-size:11px}.matrix .own{background:var(--grid)}caption{color:var(--small);text-align:left}\n"

-- The looks of boxes and words in pictures.
unfoldable pub shapes_text : List ℕ
shapes_text =
    codes "text{font:110px DejaVu Sans Mono,Menlo,Consolas,monospace;fill:var(--words);pointer-events:none}\n"
    ++ codes ".small,.detail{font-size:100px;fill:var(--small)}.counts,.detail,.interval-words{text-anchor:end}\n"
    ++ codes ".number,.digits{text-anchor:middle}.digits{fill:#fff}.answer{font-weight:bold;fill:var(--limits)}\n"
    ++ codes ".gap-words{font-size:100px;fill:var(--gap-words)}.interval-words{font-size:100px;fill:var(--ti)}\n"
    ++ codes ".tick{fill:var(--small)}.grid{fill:var(--grid)}.sent{fill:var(--sent)}.join{fill:var(--join)}\n"
    ++ codes ".gap{fill:var(--gap)}.ti{fill:var(--ti)}.tolerance,.need{fill:var(--words)}.spare{fill:var(--spare)}\n"
    ++ codes ".synchronizes{fill:var(--synchronizes)}.bears{fill:var(--bears)}.limits{fill:var(--limits)}\n"
    ++ codes ".wait{fill:var(--wait)}\n"

-- The looks of a page on paper: one of a table of eight senders takes two sheets.
unfoldable pub prints_text : List ℕ
prints_text =
    codes "@media print{body{margin:0;padding:0;max-width:none;font-size:10px;line-height:1.4}h1{font-size:17px}\n"
    ++ codes "h2{font-size:12.5px;margin:11px 0 3px}p,ul,dl,pre{margin:3px 0}pre,code{font-size:9px;line-height:1.4}\n"
    ++ codes "pre.said{font-size:10px;max-width:none}pre.table{columns:5 120px}dl{gap:3px 24px}dt{font-size:9px}\n"
    ++ codes "dd{font-size:12px}th,td{padding:1px 12px 0 0}text{font-size:120px}\n"
    ++ codes ".small,.detail,.gap-words,.interval-words{font-size:110px}h2,h2+p{break-after:avoid}\n"
    ++ codes "svg,tr,li,pre.said{break-inside:avoid}}@page{size:A4;margin:10mm}\n"

-- The style.
abbrev pub style_text : List ℕ
style_text = codes "<style>\n" ++ colours_text ++ looks_text ++ shapes_text ++ prints_text ++ codes "</style>\n"
